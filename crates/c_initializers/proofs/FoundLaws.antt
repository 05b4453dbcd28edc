-- What an object of static storage duration begins with.
use Rattle.std.proofs.Common.{◌≡◌, ℕ, zero, suc, ◌+◌, ◌-◌, ◌<◌, ◌≤◌, List, [], ◌∷◌, ◌++◌, length, get_or, take, drop}
use Rattle.std.proofs.Common.{drop-cons, map, Option, Some, None, Result, Ok, Err, refl, sym, ap, subst, ◌∙◌, arith}
use Rattle.std.proofs.Common.{append_assoc}
use Rattle.std.specs.Prelude.{ℤ, pos, slice_get, reverse}
use Rattle.std.proofs.lemmas.List.{append-nil, map_push, take_more}
use Rattle.std.specs.Global.{Vec}
use Rattle.std.proofs.lemmas.Grind.{common_steps}
use Rattle.ck_base.specs.declared.positions.Pos.{Pos}
use Rattle.c_tree.specs.Terms.{Aim, To_global, To_literal, To_function}
use Rattle.c_tree.specs.Readings as meant
use Rattle.c_tree.specs.Scopes.{Pending, State, Fault, some_or, give, continued, ◌>>=◌}
use Rattle.c_tree.specs.Statics as statics
use Rattle.c_tree.specs.Statics.{Number, There, Entry, nothing_found, known_value, ask_for, start_slot, start_slots}
use Rattle.c_initializers.specs.Found.{Start, with_found, found_of, pendings, asked_of, all_asked, AddsFound, Waits}
use Rattle.c_initializers.specs.Found.{FoundThere, IsFound, found_seen}
use Rattle.c_plain_rules.proofs.MemberLaws.{drop-next}
use Rattle.c_tree.specs.declared.typed.Typed.{Typed}
use Rattle.c_types.specs.declared.scopes.Scopes.{Scopes}
use Rattle.c_types.specs.Stands.{Stands}
use Rattle.c_expressions.specs.Nodes.{IsWhole, term_in, type_in}
use Rattle.c_elaborator.specs.declared.work.Work.{Work}
use Rattle.c_elaborator.specs.declared.work.Waiting.{Waiting}
use Rattle.c_elaborator.specs.Work.{Shows, pending_of}
use Rattle.c_elaborator.specs.Answers.{Done, Keeps, freely}
use Rattle.c_tree.specs.Scopes.{Aiming, size}
use Rattle.c_expressions.specs.declared.nodes.Nodes.{Nodes}
use Rattle.c_initializers.specs.declared.slots.Slot.{Slot}
use Rattle.c_plain_rules.specs.Placed.{Placed}
use Rattle.c_initializers.specs.declared.starts.Value.TheVariants as values
use Rattle.c_plain_rules.specs.Placing.{placed_of}
use Rattle.c_initializers.specs.Starts.{start_of as value_start}
use Rattle.c_initializers.specs.declared.starts.Known.{Known}
use Rattle.c_initializers.specs.declared.statics.Found.{Found}
use Rattle.c_initializers.specs.Slots.{slot_in, slots_in}
use Rattle.c_initializers.specs.Starts.{known_of}

abbrev pub with_pending : State → List Pending → State
with_pending s ps = record s { pending = s.pending ++ ps }

pending-same : (s : State) (ps qs : List Pending) → ps ≡ qs → record s { pending = ps } ≡ record s { pending = qs }
pending-same s ps qs e = ap (λ rs. record s { pending = rs }) e

nothing-pending : (s : State) → s ≡ with_pending s []
nothing-pending s = pending-same s s.pending (s.pending ++ []) (sym (append-nil s.pending))

ask-all : (p : Pos) (k : ℕ) (zs : List ℤ) (s : State) →
    ask_for p (To_global k) zs s ≡ Ok (tt, with_pending s (pendings p k zs))
ask-all p k [] s = ap (λ t. Ok (tt, t)) (nothing-pending s)
ask-all p k (z ∷ zs) s =
    let r : Pending = record { place = p; static = k; least = z } in
    ask-all p k zs (with_pending s (r ∷ []))
    ∙ ap (λ t. Ok (tt, t)) (pending-same s ((s.pending ++ r ∷ []) ++ pendings p k zs) (s.pending ++ r ∷ pendings p k zs)
    (append_assoc s.pending (r ∷ []) (pendings p k zs)))

then-give : {A : Type 0} (d : Result (Unit {0} × State) Fault) (t : State) (a : A) → d ≡ Ok (tt, t) →
    continued d (λ u. give a) ≡ Ok (a, t)
then-give d t a e = ap (λ r. continued r (λ u. give a)) e

slot-started : (s t : State) (x : meant.Slot) (v : Start) (f : statics.Found) →
    start_slot s x v f t ≡ Ok (with_found s x v f, with_pending t (asked_of x v))
slot-started s t x (Number v, zs) f = ap (λ u. Ok (with_found s x (Number v, zs) f, u)) (nothing-pending t)
slot-started s t x (Entry k, zs) f = ap (λ u. Ok (with_found s x (Entry k, zs) f, u)) (nothing-pending t)
slot-started s t x (There (To_global k) r z, zs) f =
    then-give (ask_for x.first (To_global k) zs t) (with_pending t (pendings x.first k zs))
    (with_found s x (There (To_global k) r z, zs) f) (ask-all x.first k zs t)
slot-started s t x (There (To_literal k) r z, zs) f =
    ap (λ u. Ok (with_found s x (There (To_literal k) r z, zs) f, u)) (nothing-pending t)
slot-started s t x (There (To_function k) r z, zs) f =
    ap (λ u. Ok (with_found s x (There (To_function k) r z, zs) f, u)) (nothing-pending t)

-- what comes behind the value of the first slot
behind : State → meant.Slot → List meant.Slot → Option Start → Result (statics.Found × State) Fault
behind s x xs o = (some_or o 134 x.first >>= λ v. start_slots xs >>= λ f. start_slot s x v f) s

after-rest : State → meant.Slot → Start → Result (statics.Found × State) Fault → Result (statics.Found × State) Fault
after-rest s x v r = continued r (λ f. start_slot s x v f)

-- all the values are known
pub slots-started : (s : State) (xs : List meant.Slot) (vs : List Start) →
    map (λ (x : meant.Slot). known_value s x.value) xs ≡ map (λ (v : Start). Some v) vs →
    start_slots xs s ≡ Ok (found_of s xs vs, with_pending s (all_asked xs vs))
unfolding behind after-rest
slots-started s [] [] e = ap (λ t. Ok (nothing_found, t)) (nothing-pending s)
slots-started s [] (v ∷ vs) e = absurd cc
slots-started s (x ∷ xs) [] e = absurd cc
slots-started s (x ∷ xs) (v ∷ vs) e =
    let a : known_value s x.value ≡ Some v = cc in
    let b : map (λ (x : meant.Slot). known_value s x.value) xs ≡ map (λ (v : Start). Some v) vs = cc in
    let f = found_of s xs vs in
    let t = with_pending s (all_asked xs vs) in
    ap (behind s x xs) a ∙ ap (after-rest s x v) (slots-started s xs vs b) ∙ slot-started s t x v f
    ∙ ap (λ u. Ok (with_found s x v f, u)) (pending-same s ((s.pending ++ all_asked xs vs) ++ asked_of x v)
    (s.pending ++ (all_asked xs vs ++ asked_of x v)) (append_assoc s.pending (all_asked xs vs) (asked_of x v)))

-- nothing is known of the first
pub first-refused : (s : State) (x : meant.Slot) (xs : List meant.Slot) → known_value s x.value ≡ None →
    start_slots (x ∷ xs) s ≡ Err (record { code = 134; place = x.first })
unfolding behind
first-refused s x xs e = ap (behind s x xs) e

-- the first is known, and a later one is refused
pub later-refused : (s : State) (x : meant.Slot) (xs : List meant.Slot) (v : Start) (e : Fault) →
    known_value s x.value ≡ Some v → start_slots xs s ≡ Err e → start_slots (x ∷ xs) s ≡ Err e
unfolding behind after-rest
later-refused s x xs v e a b = ap (behind s x xs) a ∙ ap (after-rest s x v) b

-- ---- lists that grow

pub pushed-front : {A B : Type 0} (g : A → B) (xs zs : List A) (x : A) (y : B) (rest : List B) → zs ≡ xs ++ x ∷ [] →
    g x ≡ y → map g zs ++ rest ≡ map g xs ++ y ∷ rest
pushed-front g xs zs x y rest e h =
    ap (λ l. map g l ++ rest) e ∙ ap (λ l. l ++ rest) (map_push g xs x) ∙ append_assoc (map g xs) (g x ∷ []) rest
    ∙ ap (λ b. map g xs ++ b ∷ rest) h

-- ---- what the work shows then

stands-waiting : (sc : Scopes) (p : Typed) (s : State) (ps : List Pending) → Stands sc p s →
    Stands sc p (with_pending s ps)
stands-waiting sc p s ps h = record {
  scopes = h.scopes;
  tags = h.tags;
  tag_types = h.tag_types;
  kinds = h.kinds;
  tagged = h.tagged;
  members = h.members;
  objects = h.objects;
  globals = h.globals;
  begun = h.begun;
  routines = h.routines;
  locals = h.locals;
  int = h.int;
  linked = h.linked;
}

shows-waiting : (w : Work) (v : Vec Waiting) (s : State) (ps : List Pending) → Shows w s →
    map pending_of v.items ≡ map pending_of w.waiting.items ++ ps → Shows (record w { waiting = v }) (with_pending s ps)
shows-waiting w v s ps h e = record {
  stands = stands-waiting w.nodes.scopes w.nodes.p s ps h.stands;
  texts = h.texts;
  used_objects = h.used_objects;
  used_functions = h.used_functions;
  addressed = h.addressed;
  fillings = h.fillings;
  definitions = h.definitions;
  waiting = e ∙ ap (λ q. q ++ ps) h.waiting;
  closed = record {
    file = h.closed.file;
    members = h.closed.members;
    values = h.closed.values;
    uses = h.closed.uses;
    addressed = h.closed.addressed;
    fillings = h.closed.fillings;
    definitions =
        λ k d g. let r = h.closed.definitions k d g in record { function = r.function; body = r.body; vars = r.vars };
  };
}

keeps-waiting : (w : Work) (v : Vec Waiting) → Keeps w (record w { waiting = v })
keeps-waiting w v = record {
  more_types = omega arith;
  more_terms = omega arith;
  more_actions = omega arith;
  types = λ k h. refl;
  terms = λ k h. refl;
  values = λ x. x;
  actions = λ x k h. refl;
  file = refl;
  tree = refl;
}

map-both : {A B C : Type 0} (g : B → C) (f : A → B) (ys : List A) → map g (map f ys) ≡ map (λ y. g (f y)) ys
map-both g f [] = refl
map-both g f (y ∷ ys) = ap (λ l. g (f y) ∷ l) (map-both g f ys)

pub started : (w n : Work) (slots : List Slot) (known : List Known) (f : Found) → IsWhole w.nodes →
    ((s : State) → Shows w s →
    map (λ (x : meant.Slot). known_value s x.value) (slots_in w.nodes slots) ≡ map (λ k. Some (known_of k)) known) →
    ((s : State) → Shows w s → found_seen f ≡ found_of s (slots_in w.nodes slots) (map known_of known)) →
    Waits w n (all_asked (slots_in w.nodes slots) (map known_of known)) →
    Done freely w n (start_slots (slots_in w.nodes slots)) (FoundThere n f) (IsFound n f)
started w n slots known f h k e a =
    let xs = slots_in w.nodes slots in
    let vs = map known_of known in
    let m : Work = record w { waiting = n.waiting } in
    let r : Done freely w m (start_slots xs) (FoundThere m f) (IsFound m f) = record {
      whole = h;
      grows = keeps-waiting w n.waiting;
      there = tt;
      gives = λ s g. record {
        value = found_of s xs vs;
        state = with_pending s (all_asked xs vs);
        is = slots-started s xs vs (k s g ∙ sym (map-both (λ (v : Start). Some v) known_of known));
        stays = tt;
        shows = shows-waiting w n.waiting s (all_asked xs vs) g a.waiting;
        fits = sym (e s g);
      };
    } in subst (λ (z : Work). Done freely w z (start_slots xs) (FoundThere z f) (IsFound z f)) (sym a.rest) r

-- ---- one more value

pub knows-more : (w : Work) (s : State) (slots : List Slot) (i : ℕ) (d : Slot) (old new : List Known) (v : Known) →
    i < length slots → known_value s (term_in w.nodes (get_or slots i d).value) ≡ Some (known_of v) →
    new ≡ old ++ v ∷ [] →
    map (λ (x : meant.Slot). known_value s x.value) (slots_in w.nodes (take i slots))
    ≡ map (λ k. Some (known_of k)) old →
    map (λ (x : meant.Slot). known_value s x.value) (slots_in w.nodes (take (i + 1) slots))
    ≡ map (λ k. Some (known_of k)) new
knows-more w s slots i d old new v l k e h =
    let x = get_or slots i d in
    let f : meant.Slot → Option Start = λ y. known_value s y.value in
    let g : Known → Option Start = λ q. Some (known_of q) in
    ap (λ ys. map f (slots_in w.nodes ys)) (take_more slots i d l)
    ∙ ap (map f) (map_push (slot_in w.nodes) (take i slots) x)
    ∙ map_push f (slots_in w.nodes (take i slots)) (slot_in w.nodes x)
    ∙ ap (λ ys. ys ++ f (slot_in w.nodes x) ∷ []) h ∙ ap (λ o. map g old ++ o ∷ []) k
    ∙ sym (map_push g old v) ∙ ap (map g) (sym e)

pub front-all : {A : Type 0} (xs : List A) (i : ℕ) → length xs ≤ i → take i xs ≡ xs
front-all xs i l = grind (arith, common_steps)

-- a number
pub add-number : (w : Work) (s : State) (x : Slot) (v : Known) (width number : ℕ) (xs zs : List Placed)
    (f : statics.Found) → v.value ≡ values.Number number → size s (type_in w.nodes x.of) ≡ width →
    zs ≡ xs ++ record { at = x.at; width = width; number = number } ∷ [] →
    map placed_of zs ++ f.0 ≡ map placed_of xs ++ (with_found s (slot_in w.nodes x) (known_of v) f).0
add-number w s x v width number xs zs f n z e =
    let p : Placed = record { at = x.at; width = width; number = number } in
    let q : statics.Placed = record { at = x.at; width = size s (type_in w.nodes x.of); number = number } in
    pushed-front placed_of xs zs p q f.0 e (ap
    (λ k. (let r : statics.Placed = record { at = x.at; width = k; number = number } in r)) (sym z))
    ∙ ap (λ y. map placed_of xs ++ (with_found s (slot_in w.nodes x) (value_start y, reverse v.asks.items) f).0) (sym n)

pub add-no-start : (w : Work) (s : State) (x : Slot) (v : Known) (number : ℕ) (xs : List Aiming) (f : statics.Found) →
    v.value ≡ values.Number number → xs ++ f.1 ≡ xs ++ (with_found s (slot_in w.nodes x) (known_of v) f).1
add-no-start w s x v number xs f n =
    ap (λ y. xs ++ (with_found s (slot_in w.nodes x) (value_start y, reverse v.asks.items) f).1) (sym n)

-- ---- the values ask from the last one on

pub waits-then : (a b c : Work) (ps qs : List Pending) → Waits a b ps → Waits b c qs → Waits a c (ps ++ qs)
waits-then a b c ps qs h k = record {
  rest = k.rest ∙ ap (λ (z : Work). record z { waiting = c.waiting }) h.rest;
  waiting = k.waiting ∙ ap (λ l. l ++ qs) h.waiting ∙ append_assoc (map pending_of a.waiting.items) ps qs;
}

pub asked-back : (n : Nodes) (slots : List Slot) (known : List Known) (left : ℕ) (d : Slot) (v : Known) → 0 < left →
    left ≤ length slots → length known ≡ length slots → v ≡ get_or known (left - 1) v →
    all_asked (slots_in n (drop left slots)) (map known_of (drop left known))
    ++ asked_of (slot_in n (get_or slots (left - 1) d)) (known_of v)
    ≡ all_asked (slots_in n (drop (left - 1) slots)) (map known_of (drop (left - 1) known))
asked-back n slots known zero d v l m e h = absurd (omega arith)
asked-back n slots known (suc k) d v l m e h =
    let z : suc k - 1 ≡ k = omega arith in
    let a : drop k slots ≡ get_or slots k d ∷ drop (suc k) slots = drop-cons slots k d (omega arith) in
    let g : v ≡ get_or known k v = rw z at h in
    let b : drop k known ≡ v ∷ drop (suc k) known =
    drop-cons known k v (omega arith) ∙ ap (λ y. y ∷ drop (suc k) known) (sym g) in
    rw z (sym (ap (λ xs. all_asked (slots_in n xs) (map known_of (drop k known))) a
    ∙ ap (λ vs. all_asked (slots_in n (get_or slots k d ∷ drop (suc k) slots)) (map known_of vs)) b))

pub waits-more : (a b c : Work) (slots : List Slot) (known : List Known) (left : ℕ) (d : Slot) (v : Known) → 0 < left →
    left ≤ length slots → length known ≡ length slots → v ≡ get_or known (left - 1) v →
    Waits a b (all_asked (slots_in a.nodes (drop left slots)) (map known_of (drop left known))) →
    Waits b c (asked_of (slot_in b.nodes (get_or slots (left - 1) d)) (known_of v)) →
    Waits a c (all_asked (slots_in a.nodes (drop (left - 1) slots)) (map known_of (drop (left - 1) known)))
waits-more a b c slots known left d v l m e g h k =
    let x = get_or slots (left - 1) d in
    let same : b.nodes ≡ a.nodes = ap (λ (z : Work). z.nodes) h.rest in
    let k' : Waits b c (asked_of (slot_in a.nodes x) (known_of v)) =
    subst (λ (n : Nodes). Waits b c (asked_of (slot_in n x) (known_of v))) same k in
    subst (λ (ps : List Pending). Waits a c ps) (asked-back a.nodes slots known left d v l m e g)
    (waits-then a b c _ _ h k')

pub waits-all : (a b : Work) (slots : List Slot) (known : List Known) (left : ℕ) → left ≤ 0 →
    Waits a b (all_asked (slots_in a.nodes (drop left slots)) (map known_of (drop left known))) →
    Waits a b (all_asked (slots_in a.nodes slots) (map known_of known))
waits-all a b slots known zero l h = h
waits-all a b slots known (suc k) l h = absurd (omega arith)
