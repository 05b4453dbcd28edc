-- The items of a list in braces, one after another.
use Rattle.std.proofs.Common.{◌≡◌, ℕ, zero, suc, ◌+◌, ◌*◌, ◌^◌, ◌<◌, ◌≤◌, List, [], ◌∷◌, ◌++◌, length}
use Rattle.std.proofs.Common.{Option, Some, None, Result, Ok, Err, refl, sym, ap, subst, ◌∙◌, arith, append_assoc}
use Rattle.std.proofs.lemmas.List.{map-append, append-nil}
use Rattle.std.specs.Prelude.{option_map, nat_lt, ◌==◌, ◌||◌}
use Rattle.ck_base.specs.declared.positions.Pos.{Pos}
use Rattle.ck_base.specs.declared.refusal.Refusal.{Refusal}
use Rattle.ck_base.specs.declared.refusal.Refusal.TheVariants.{Code, NoMemory}
use Rattle.c_tree.specs.declared.syntax.Tree.{Tree}
use Rattle.c_tree.specs.Syntax.{Syn, Syns, StandAt}
use Rattle.c_tree.specs.Typing.{AreSpelled}
use Rattle.c_tree.specs.Types.{Ty}
use Rattle.c_tree.specs.Readings as meant
use Rattle.c_tree.specs.Readings.{Reading}
use Rattle.c_tree.specs.Scopes.{State, Fault, Doing, give, some_or, continued, ◌>>=◌}
use Rattle.c_tree.specs.Initializers.{item_place}
use Rattle.c_tree.specs.Programs.{reading, readings}
use Rattle.c_expressions.specs.Nodes.{IsWhole, type_in, type_count}
use Rattle.c_elaborator.specs.declared.work.Work.{Work}
use Rattle.c_elaborator.specs.Work.{Shows}
use Rattle.c_elaborator.specs.Answers.{Keeps, Done, Answers, quietly}
use Rattle.c_elaborator.specs.Parts.{IsPart, AreParts}
use Rattle.c_elaborator.proofs.Parting.{cut, no_parts}
use Rattle.c_elaborator.proofs.Sequencing.{quiet_law, answers_at, then, gave}
use Rattle.c_plain_rules.specs.Place.{Place}
use Rattle.c_initializers.specs.declared.places.Places.{Places}
use Rattle.c_initializers.specs.declared.places.Places.TheVariants.{Elements, Members, Alone}
use Rattle.c_initializers.specs.Places.{AreNear, ArePlaces, ArePlacesThere, IsPlaceThere, place_at, place_in}
use Rattle.c_initializers.specs.declared.slots.Slot.{Slot}
use Rattle.c_initializers.specs.declared.slots.Filled.{Filled}
use Rattle.c_initializers.specs.Slots.{IsSlotThere, AreSlotsThere, slots_in, FilledThere, IsFilled, filled_in}
use Rattle.c_initializers.proofs.PlaceLaws.{all-at, if-some}
use Rattle.c_initializers.proofs.SlotLaws.{work_slots_kept, work_slots_there}
use Rattle.c_statements.specs.declared.initial.Goal.{Goal}
use Rattle.c_statements.specs.Initial.{asked_by, listing, gives_items, IsNear, IsNext, SoFar}
use Rattle.c_statements.proofs.Reading.{readings_more, readings_nil}

-- the values of one item, and then those of the others
abbrev pub one_more : Doing meant.Filled → Doing (List meant.Slot) → Doing (List meant.Slot)
one_more d l = d >>= λ f. l >>= λ zs. give (f.slots ++ zs)

-- what was given before, and then the others
abbrev pub joined : Doing (List meant.Slot) → Doing (List meant.Slot) → Doing (List meant.Slot)
joined b l = b >>= λ ys. l >>= λ zs. give (ys ++ zs)

listing_more : (u : Work) (g : Goal) (brace : Pos) (s : State) (i : ℕ) (q : Reading) (rs : List Reading) (p : ℕ × Ty) →
    item_place s (type_in u.nodes g.of) i ≡ Some p →
    listing u g brace s i (q ∷ rs) ≡ one_more (q.initializer (asked_by g.asked) g.whole p.1 (g.at + p.0))
    (listing u g brace s (i + 1) rs)
listing_more u g brace s i q rs p e =
    ap (λ (o : Option (ℕ × Ty)). some_or o 133 brace >>= λ p. q.initializer (asked_by g.asked) g.whole p.1 (g.at + p.0)
    >>= λ f. listing u g brace s (i + 1) rs >>= λ slots. give (f.slots ++ slots)) e

listing_none : (u : Work) (g : Goal) (brace : Pos) (s t : State) (i : ℕ) (q : Reading) (rs : List Reading) →
    item_place s (type_in u.nodes g.of) i ≡ None →
    listing u g brace s i (q ∷ rs) t ≡ Err (record { code = 133; place = brace })
listing_none u g brace s t i q rs e =
    ap (λ (o : Option (ℕ × Ty)). (some_or o 133 brace >>= λ p. q.initializer (asked_by g.asked) g.whole p.1 (g.at + p.0)
    >>= λ f. listing u g brace s (i + 1) rs >>= λ slots. give (f.slots ++ slots)) t) e

begins : (o : Result (List meant.Slot × State) Fault) → o ≡ continued o (λ zs. give ([] ++ zs))
begins (Ok x) = refl
begins (Err e) = refl

ends : (o : Result (List meant.Slot × State) Fault) → continued o (λ ys. give [] >>= λ zs. give (ys ++ zs)) ≡ o
ends (Ok x) = ap (λ (l : List meant.Slot). Ok (l, x.1)) (append-nil x.0)
ends (Err e) = refl

turns : (b : Doing (List meant.Slot)) (d : Doing meant.Filled) (l : Doing (List meant.Slot)) (s : State) →
    joined b (one_more d l) s ≡ joined (b >>= λ ys. d >>= λ f. give (ys ++ f.slots)) l s
turns b d l s = first (b s)
  where
    third : (a : List meant.Slot) (f : meant.Filled) (o : Result (List meant.Slot × State) Fault) →
        continued (continued o (λ zs. give (f.slots ++ zs))) (λ zs. give (a ++ zs))
        ≡ continued o (λ zs. give ((a ++ f.slots) ++ zs))
    third a f (Ok z) = ap (λ (l : List meant.Slot). Ok (l, z.1)) (sym (append_assoc a f.slots z.0))
    third a f (Err e) = refl

    second : (a : List meant.Slot) (o : Result (meant.Filled × State) Fault) →
        continued (continued o (λ f. l >>= λ zs. give (f.slots ++ zs))) (λ zs. give (a ++ zs))
        ≡ continued (continued o (λ f. give (a ++ f.slots))) (λ ys. l >>= λ zs. give (ys ++ zs))
    second a (Ok y) = third a y.0 (l y.1)
    second a (Err e) = refl

    first : (o : Result (List meant.Slot × State) Fault) →
        continued o (λ ys. one_more d l >>= λ zs. give (ys ++ zs))
        ≡ continued (continued o (λ ys. d >>= λ f. give (ys ++ f.slots))) (λ ys. l >>= λ zs. give (ys ++ zs))
    first (Ok x) = second x.0 (d x.1)
    first (Err e) = refl

-- ---- what was given so far

abbrev pub KeptThere : Work → List Slot → Type 0
KeptThere w xs = AreSlotsThere w.nodes xs

abbrev pub AreKept : Work → List Slot → State → List meant.Slot → Type 0
AreKept w xs s ys = ys ≡ slots_in w.nodes xs

pub so_far_begins : (u : Work) (g : Goal) (brace : Pos) (ks : List ℕ) (given : List Slot) → IsWhole u.nodes →
    given ≡ [] → (xs : Syns) → AreParts u ks xs → SoFar u u g brace xs 0 ks given
so_far_begins u g brace ks given whole e xs p =
    let none : slots_in u.nodes given ≡ [] = ap (slots_in u.nodes) e in
    record {
      rest = xs;
      parts = p;
      before = give (slots_in u.nodes given);
      done = gave quietly quiet_law u (slots_in u.nodes given) (AreSlotsThere u.nodes given) whole
          (subst (λ (l : List Slot). AreSlotsThere u.nodes l) (sym e) (λ k d l. absurd (omega arith)));
      is = λ s h. begins (listing u g brace s 0 (readings xs) s)
          ∙ ap (λ (ys : List meant.Slot). continued (listing u g brace s 0 (readings xs) s) (λ zs. give (ys ++ zs)))
          (sym none);
    }

there-both : (w : Work) (xs ys : List Slot) → AreSlotsThere w.nodes xs → AreSlotsThere w.nodes ys →
    AreSlotsThere w.nodes (xs ++ ys)
there-both w [] ys a b = b
there-both w (x ∷ xs) ys a b =
    in-front w x (xs ++ ys) (a 0 x (omega arith)) (there-both w xs ys (λ k d l. a (suc k) d (omega arith)) b)
  where
    in-front : (w : Work) (x : Slot) (zs : List Slot) → IsSlotThere w.nodes x → AreSlotsThere w.nodes zs →
        AreSlotsThere w.nodes (x ∷ zs)
    in-front w x zs h g zero d l = h
    in-front w x zs h g (suc k) d l = g k d (omega arith)

pub so_far_steps : (u v w : Work) (g : Goal) (brace : Pos) (xs : Syns) (i k : ℕ) (ks : List ℕ)
    (given longer : List Slot) (place : Place) (f : Filled) → SoFar u v g brace xs i (k ∷ ks) given →
    ((s : State) → Shows u s → item_place s (type_in u.nodes g.of) i ≡ Some (place.at, type_in u.nodes place.of)) →
    type_in v.nodes place.of ≡ type_in u.nodes place.of →
    ((y : Syn) → IsPart v k y →
    Done quietly v w ((reading y).initializer (asked_by g.asked) g.whole (type_in v.nodes place.of)
    (g.at + place.at)) (FilledThere w f) (IsFilled w f)) → longer ≡ given ++ f.slots.items →
    SoFar u w g brace xs (i + 1) ks longer
so_far_steps u v w g brace xs i k ks given longer place f r p same h e =
    let c = cut v k ks r.rest r.parts in
    let q = reading c.head in
    let d = q.initializer (asked_by g.asked) g.whole (type_in u.nodes place.of) (g.at + place.at) in
    let a : Done quietly v w d (FilledThere w f) (IsFilled w f) =
    subst (λ (t : Ty). Done quietly v w (q.initializer (asked_by g.asked) g.whole t (g.at + place.at))
    (FilledThere w f) (IsFilled w f)) same (h c.head c.first) in
    let old = slots_in v.nodes given in
    let there : AreSlotsThere w.nodes longer =
    subst (λ (l : List Slot). AreSlotsThere w.nodes l) (sym e)
    (there-both w given f.slots.items (work_slots_there v w given a.grows.keeps r.done.there) a.there) in
    let all : old ++ slots_in w.nodes f.slots.items ≡ slots_in w.nodes longer =
    ap (λ (l : List meant.Slot). l ++ slots_in w.nodes f.slots.items)
    (sym (work_slots_kept v w given a.grows.keeps r.done.there))
    ∙ sym (map-append _ given f.slots.items) ∙ ap (slots_in w.nodes) (sym e) in
    record {
      rest = c.tail;
      parts = kept v w ks c.tail a.grows.keeps c.others;
      before = r.before >>= λ ys. d >>= λ y. give (ys ++ y.slots);
      done = (then) quietly quiet_law u v w r.before (λ ys. d >>= λ y. give (ys ++ y.slots)) old
          (AreSlotsThere v.nodes given) KeptThere AreKept (Ok longer) r.done
          ((then) quietly quiet_law v w w d (λ y. give (old ++ y.slots)) (filled_in w.nodes f)
          (FilledThere w f) KeptThere AreKept (Ok longer) a
          (subst (λ (l : List meant.Slot). Done quietly w w (give (old ++ slots_in w.nodes f.slots.items))
          (AreSlotsThere w.nodes longer) (λ s x. x ≡ l)) all
          (gave quietly quiet_law w (old ++ slots_in w.nodes f.slots.items)
          (AreSlotsThere w.nodes longer) a.whole there)));
      is = λ s t. r.is s t ∙ ap (λ (rs : List Reading). joined r.before (listing u g brace s i rs) s)
          (ap readings c.is ∙ readings_more c.head c.tail)
          ∙ ap (λ (l : Doing (List meant.Slot)). joined r.before l s)
          (listing_more u g brace s i q (readings c.tail) (place.at, type_in u.nodes place.of) (p s t))
          ∙ turns r.before d (listing u g brace s (i + 1) (readings c.tail)) s;
    }
  where
    kept : (u v : Work) (ks : List ℕ) (xs : Syns) → Keeps u v → AreParts u ks xs → AreParts v ks xs
    kept u v ks xs h p = record {
      stand = subst (λ (t : Tree). StandAt t.nodes ks xs) (sym h.tree) p.stand;
      spelled = subst (λ (f : List ℕ). AreSpelled f xs) (sym h.file) p.spelled;
      written = p.written;
    }

-- as many items as there are numbers
pub items_count : (w : Work) (ks : List ℕ) (xs : Syns) → AreParts w ks xs → length (readings xs) ≡ length ks
items_count w [] xs p = ap (λ (z : Syns). length (readings z)) (no_parts w xs p) ∙ ap length readings_nil
items_count w (k ∷ ks) xs p =
    let c = cut w k ks xs p in
    ap (λ (z : Syns). length (readings z)) c.is ∙ ap length (readings_more c.head c.tail)
    ∙ ap suc (items_count w ks c.tail c.others)

abbrev pub all_given : ℕ → List meant.Slot → meant.Filled
all_given n ys = record { slots = ys; count = n }

apart : (n : ℕ) (a : List meant.Slot) (o : Result (List meant.Slot × State) Fault) →
    continued (continued o (λ zs. give (a ++ zs))) (λ ys. give (all_given n ys))
    ≡ continued o (λ zs. give (all_given n (a ++ zs)))
apart n a (Ok x) = refl
apart n a (Err e) = refl

-- what the list gives, from where it has come to
gives_at : (u v : Work) (g : Goal) (brace : Pos) (xs : Syns) (i : ℕ) (ks : List ℕ) (given : List Slot)
    (r : SoFar u v g brace xs i ks given) (s : State) (h : Shows u s) →
    gives_items (readings xs) (asked_by g.asked) g.whole (type_in u.nodes g.of) g.at brace s
    ≡ continued (listing u g brace s i (readings r.rest) (r.done.gives s h).state)
    (λ zs. give (all_given (length (readings xs)) ((r.done.gives s h).value ++ zs)))
gives_at u v g brace xs i ks given r s h =
    let m = r.done.gives s h in
    let n = length (readings xs) in
    ap (λ o. continued o (λ ys. give (all_given n ys)))
    (r.is s h ∙ ap (λ o. continued o (λ ys. listing u g brace s i (readings r.rest) >>= λ zs. give (ys ++ zs)))
    m.is)
    ∙ apart n m.value (listing u g brace s i (readings r.rest) m.state)

pub so_far_none : (u v w : Work) (g : Goal) (brace : Pos) (xs : Syns) (i k : ℕ) (ks : List ℕ) (given : List Slot) →
    SoFar u v g brace xs i (k ∷ ks) given → ((s : State) → Shows u s → item_place s (type_in u.nodes g.of) i ≡ None) →
    Answers quietly u w (gives_items (readings xs) (asked_by g.asked) g.whole (type_in u.nodes g.of) g.at brace)
    FilledThere IsFilled (Err (Code 133 brace))
so_far_none u v w g brace xs i k ks given r p = λ s h.
    let c = cut v k ks r.rest r.parts in
    let m = r.done.gives s h in
    gives_at u v g brace xs i (k ∷ ks) given r s h
    ∙ ap (λ o. continued o (λ zs. give (all_given (length (readings xs)) (m.value ++ zs))))
    (ap (λ (rs : List Reading). listing u g brace s i rs m.state) (ap readings c.is ∙ readings_more c.head c.tail)
    ∙ listing_none u g brace s m.state i (reading c.head) (readings c.tail) (p s h))

pub so_far_fails : (u v w : Work) (g : Goal) (brace : Pos) (xs : Syns) (i k : ℕ) (ks : List ℕ) (given : List Slot)
    (place : Place) (e : Refusal) → SoFar u v g brace xs i (k ∷ ks) given →
    ((s : State) → Shows u s → item_place s (type_in u.nodes g.of) i ≡ Some (place.at, type_in u.nodes place.of)) →
    type_in v.nodes place.of ≡ type_in u.nodes place.of →
    ((y : Syn) → IsPart v k y →
    Answers quietly v w ((reading y).initializer (asked_by g.asked) g.whole (type_in v.nodes place.of)
    (g.at + place.at)) FilledThere IsFilled (Err e)) →
    Answers quietly u w (gives_items (readings xs) (asked_by g.asked) g.whole (type_in u.nodes g.of) g.at brace)
    FilledThere IsFilled (Err e)
so_far_fails u v w g brace xs i k ks given place NoMemory r p same f = tt
so_far_fails u v w g brace xs i k ks given place (Code code at) r p same f = λ s h.
    let c = cut v k ks r.rest r.parts in
    let m = r.done.gives s h in
    let q = reading c.head in
    let d = q.initializer (asked_by g.asked) g.whole (type_in u.nodes place.of) (g.at + place.at) in
    let l = listing u g brace s (i + 1) (readings c.tail) in
    let a = ap (λ (t : Ty). q.initializer (asked_by g.asked) g.whole t (g.at + place.at) m.state) (sym same)
    ∙ f c.head c.first m.state m.shows in
    gives_at u v g brace xs i (k ∷ ks) given r s h
    ∙ ap (λ o. continued o (λ zs. give (all_given (length (readings xs)) (m.value ++ zs))))
    (ap (λ (rs : List Reading). listing u g brace s i rs m.state) (ap readings c.is ∙ readings_more c.head c.tail)
    ∙ ap (λ (o : Doing (List meant.Slot)). o m.state)
    (listing_more u g brace s i q (readings c.tail) (place.at, type_in u.nodes place.of) (p s h))
    ∙ ap (λ o. continued o (λ y. l >>= λ zs. give (y.slots ++ zs))) a)

pub so_far_ends : (u v : Work) (g : Goal) (brace : Pos) (xs : Syns) (i : ℕ) (ks js : List ℕ) (given : List Slot)
    (f : Filled) → SoFar u v g brace xs i js given → js ≡ [] → AreParts u ks xs → f.slots.items ≡ given →
    f.count ≡ length ks →
    Answers quietly u v (gives_items (readings xs) (asked_by g.asked) g.whole (type_in u.nodes g.of) g.at brace)
    FilledThere IsFilled (Ok f)
so_far_ends u v g brace xs i ks js given f r none p e n =
    let count : length (readings xs) ≡ f.count = items_count u ks xs p ∙ sym n in
    let nothing : readings r.rest ≡ [] =
    ap readings (no_parts v r.rest (subst (λ (ls : List ℕ). AreParts v ls r.rest) none r.parts))
    ∙ readings_nil in
    let a = all_given (length (readings xs)) (slots_in v.nodes given) in
    let i' : a ≡ filled_in v.nodes f =
    ap (λ (l : List Slot). all_given (length (readings xs)) (slots_in v.nodes l)) (sym e)
    ∙ ap (λ (c : ℕ). all_given c (slots_in v.nodes f.slots.items)) count in
    answers_at quietly u v (gives_items (readings xs) (asked_by g.asked) g.whole (type_in u.nodes g.of) g.at brace)
    (r.before >>= λ ys. give (all_given (length (readings xs)) ys)) FilledThere IsFilled (Ok f)
    (λ s h. ap (λ o. continued o (λ ys. give (all_given (length (readings xs)) ys)))
    (r.is s h ∙ ap (λ (rs : List Reading). joined r.before (listing u g brace s i rs) s) nothing ∙ ends (r.before s)))
    ((then) quietly quiet_law u v v r.before (λ ys. give (all_given (length (readings xs)) ys)) (slots_in v.nodes given)
    (AreSlotsThere v.nodes given) FilledThere IsFilled (Ok f) r.done
    (subst (λ (y : meant.Filled). Done quietly v v (give a) (AreSlotsThere v.nodes f.slots.items) (λ s x. x ≡ y)) i'
    (gave quietly quiet_law v a (AreSlotsThere v.nodes f.slots.items) r.done.whole
    (subst (λ (l : List Slot). AreSlotsThere v.nodes l) (sym e) r.done.there))))

-- ---- what the next item initialises

place_there : (w : Work) (places : Places) (k : ℕ) (p : Place) → ArePlacesThere w places → place_at places k ≡ Some p →
    p.of < type_count w.nodes
place_there w (Elements of size count) k p h e = if-some (IsPlaceThere w) (nat_lt k count || count == 0)
    (record { at = k * size; of = of }) p h e
place_there w (Members ps) k p h e = all-at (IsPlaceThere w) ps.items k p h e
place_there w (Alone of) k p h e = if-some (IsPlaceThere w) (k == 0) (record { at = 0; of = of }) p h e

pub item_there : (u : Work) (g part : Goal) (places : Places) (count i number : ℕ) (brace : Pos) →
    ArePlaces u g.of count places → i < count → number ≡ i → (h : IsNext places number g brace (Ok part)) →
    (s : State) → Shows u s → item_place s (type_in u.nodes g.of) i ≡ Some (h.0.at, type_in u.nodes h.0.of)
item_there u g part places count i number brace a l n h =
    λ s t. a.are s t i l ∙ ap (option_map (place_in u)) (ap (place_at places) (sym n) ∙ h.1)

pub place_is_there : (u : Work) (g part : Goal) (places : Places) (count number : ℕ) (brace : Pos) →
    ArePlaces u g.of count places → (h : IsNext places number g brace (Ok part)) → h.0.of < type_count u.nodes
place_is_there u g part places count number brace a h = place_there u places number h.0 a.there h.1

pub part_is_there : (u v : Work) (g part : Goal) (places : Places) (count number : ℕ) (brace : Pos) →
    ArePlaces u g.of count places → Keeps u v → IsNext places number g brace (Ok part) → part.of < type_count v.nodes
part_is_there u v g part places count number brace a k h =
    let l : h.0.of < type_count u.nodes = place_is_there u g part places count number brace a h in
    let m : type_count u.nodes ≤ type_count v.nodes = k.more_types in
    let e : part.of ≡ h.0.of = ap (λ (z : Goal). z.of) h.2 in
    omega arith

pub part_is_near : (g part : Goal) (places : Places) (number : ℕ) (brace : Pos) → IsNear g → AreNear places →
    IsNext places number g brace (Ok part) → IsNear part
part_is_near g part places number brace n a h =
    let l : h.0.at ≤ suc number * 2 ^ 27 = a number h.0 h.1 in
    let at : part.at ≡ g.at + h.0.at = ap (λ (z : Goal). z.at) h.2 in
    let items : part.items ≡ g.items + number + 1 = ap (λ (z : Goal). z.items) h.2 in
    omega arith

pub part_refused : (u v w : Work) (g : Goal) (brace : Pos) (xs : Syns) (i k : ℕ) (ks : List ℕ) (given : List Slot)
    (places : Places) (count number : ℕ) (e : Refusal) → SoFar u v g brace xs i (k ∷ ks) given →
    ArePlaces u g.of count places → i < count → number ≡ i →
    IsNext places number g brace (Err e) →
    Answers quietly u w (gives_items (readings xs) (asked_by g.asked) g.whole (type_in u.nodes g.of) g.at brace)
    FilledThere IsFilled (Err e)
part_refused u v w g brace xs i k ks given places count number NoMemory r a l n h = tt
part_refused u v w g brace xs i k ks given places count number (Code code place) r a l n h =
    let d = gives_items (readings xs) (asked_by g.asked) g.whole (type_in u.nodes g.of) g.at brace in
    subst (λ (c : ℕ). Answers quietly u w d FilledThere IsFilled (Err (Code c place))) (sym h.1)
    (subst (λ (p : Pos). Answers quietly u w d FilledThere IsFilled (Err (Code 133 p))) (sym h.2)
    (so_far_none u v w g brace xs i k ks given r
    (λ s t. a.are s t i l ∙ ap (option_map (place_in u)) (ap (place_at places) (sym n) ∙ h.0))))
