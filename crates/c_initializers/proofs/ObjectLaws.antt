-- What the work shows once an object has its type and its initial value.
use Rattle.std.proofs.Common.{◌≡◌, ℕ, zero, suc, ◌+◌, ◌<◌, ◌≤◌, ◌⊎◌, inl, inr, ⊎_elim, Bool, true, false, List, [], ◌∷◌}
use Rattle.std.proofs.Common.{◌++◌, length, map, Option, Some, None, Result, Ok, Err, refl, sym, ap, subst, ◌∙◌, arith}
use Rattle.std.specs.Prelude.{slice_get, slice_set, ◌==◌, if◌then◌else◌}
use Rattle.std.specs.Global.{Vec}
use Rattle.std.proofs.lemmas.Bool.{eq-eqb, ne_eqb}
use Rattle.std.proofs.lemmas.List.Sums.{fold-append}
use Rattle.c_tree.specs.Types.{Ty}
use Rattle.c_tree.specs.declared.typed.Typed.{Typed}
use Rattle.c_tree.specs.Scopes.{Fault, Doing, give, look, change, continued, ◌>>=◌, ◌>>◌, StaticState, LocalState}
use Rattle.c_tree.specs.Scopes.{RoutineState, State, Local, Aiming, with_changed, changed_at, change_static, bind_name}
use Rattle.ck_base.specs.declared.positions.Pos.{Pos}
use Rattle.ck_base.specs.Tokens.{Lexeme}
use Rattle.c_tree.specs.Readings as meant
use Rattle.c_tree.specs.Declarations.{static_of, complete_now}
use Rattle.c_tree.specs.Initializers.{every_slot, with_count}
use Rattle.c_tree.specs.Statics.{start_slots, initial_bytes}
use Rattle.c_tree.specs.Statics as statics
use Rattle.c_tree.specs.Terms.{Action}
use Rattle.c_tree.specs.Views.{types_of, text_of}
use Rattle.c_types.specs.declared.scopes.Scopes.{Scopes}
use Rattle.c_types.specs.Calls.{Extends}
use Rattle.c_types.specs.Stands.{Stands, named, text_at}
use Rattle.c_types.proofs.Judged.{named_there}
use Rattle.c_types.proofs.Records.{push_cases, slice_get-slice_set}
use Rattle.c_expressions.specs.declared.nodes.Nodes.{Nodes}
use Rattle.c_expressions.specs.Nodes as nodes
use Rattle.c_expressions.specs.Nodes.{IsWhole, type_in, type_count}
use Rattle.c_elaborator.specs.declared.work.Work.{Work}
use Rattle.c_elaborator.specs.declared.work.Filling.{Filling}
use Rattle.c_elaborator.specs.declared.work.Name.{Name}
use Rattle.c_elaborator.specs.declared.work.Start.{Start}
use Rattle.c_plain_rules.specs.Placed.{Placed}
use Rattle.c_plain_rules.specs.Placing.{placed_of, pointers_end}
use Rattle.c_elaborator.specs.Work.{Shows, IsClosed, aiming_of, filling_of, first_place, is_object, is_function}
use Rattle.c_elaborator.specs.Work.{is_among}
use Rattle.c_elaborator.specs.Parts.{token_of}
use Rattle.c_elaborator.specs.Rules.{IsObjectType}
use Rattle.c_elaborator.specs.Answers.{Keeps, Done, Answers, quietly, freely, TypeThere, IsType, NothingThere}
use Rattle.c_elaborator.specs.Answers.{IsNothing}
use Rattle.c_elaborator.proofs.Growing.{keeps_nodes, shows_nodes}
use Rattle.ck_base.specs.declared.refusal.Refusal.{Refusal}
use Rattle.c_elaborator.proofs.Sequencing.{keeps_same, keeps_then, answers_at, then, then_by, also_then, freed, failed}
use Rattle.c_elaborator.proofs.Sequencing.{free_law}
use Rattle.c_initializers.specs.declared.slots.Slot.{Slot}
use Rattle.c_initializers.specs.declared.slots.Filled.{Filled}
use Rattle.c_initializers.specs.declared.statics.Found.{Found}
use Rattle.c_initializers.specs.Slots.{slots_in, filled_in, AreSlotsThere, SlotsThere, AreSlots, every_slot_of}
use Rattle.c_initializers.specs.Found.{FoundThere, IsFound, found_seen}
use Rattle.c_initializers.proofs.SlotLaws.{work_slots_kept}
use Rattle.c_initializers.specs.Objects.{counted, filled, completes_object, object_complete, local_completed}
use Rattle.c_initializers.specs.Objects.{completes_local, fills_object, fills_found, static_filled, local_filled}
use Rattle.c_initializers.specs.Objects.{AreBelow}
use Rattle.c_elaborator.proofs.Using.{set_at}
use Rattle.c_elaborator.proofs.Extending.{GoesOn, extends_goes_on, AreExtended, extended_whole, extended_values}
use Rattle.c_elaborator.proofs.Extending.{extended_keeps, extended_definition, extended_there, each_changed}
use Rattle.c_elaborator.proofs.Extending.{changed_length}

-- ---- objects of static storage duration

pub shows_static : (w : Work) (m : Nodes) (fs : Vec Filling) (k : ℕ) (f : StaticState → StaticState) (s : State) →
    IsWhole w.nodes → AreExtended w.nodes m → ((g : StaticState) → (f g).used ≡ g.used) →
    Stands m.scopes m.p (change_static k f s) →
    ((j : ℕ) (g : StaticState) → slice_get (changed_at f s.statics k) j ≡ Some g → g.initial ≡ filling_of j fs.items) →
    AreBelow (length s.statics) fs.items → Shows w s →
    Shows (record w { nodes = m; fillings = fs }) (change_static k f s)
shows_static w m fs k f s whole e u st fl below h =
    let count : length (changed_at f s.statics k) ≡ length s.statics = changed_length f s.statics k in
    record {
      stands = st;
      texts = ap (map text_of) e.program.literals ∙ h.texts;
      used_objects = each_changed (λ j (g : StaticState). g.used ≡ first_place (is_object j) w.uses.items) f s.statics k
          h.used_objects (λ g q. u g ∙ q);
      used_functions = h.used_functions;
      addressed = h.addressed;
      fillings = fl;
      definitions = λ j r q. h.definitions j r q ∙ sym (extended_definition w m s j whole e h.closed);
      waiting = h.waiting;
      closed = record {
        file = e.file ∙ h.closed.file;
        members = h.closed.members;
        values = extended_values w m e h.closed.values;
        uses = λ j v i. rw count (h.closed.uses j v i);
        addressed = h.closed.addressed;
        fillings = λ j v i. rw count (below j v i);
        definitions = λ j d i. extended_there w m fs s (change_static k f s) d e refl (h.closed.definitions j d i);
      };
    }

-- where there is no object, nothing changes
pub no_object : (w : Work) (k : ℕ) (f : StaticState → StaticState) → IsWhole w.nodes → IsObjectType w k None →
    Done freely w w (change (change_static k f)) (NothingThere w tt) (IsNothing w tt)
no_object w k f whole none = record {
  whole = whole;
  grows = keeps_same w;
  there = tt;
  gives = λ s h.
      let e : change_static k f s ≡ s =
      ap (λ (o : Option StaticState). record s { statics = with_changed f o s.statics k }) (none s h) in
      record {
        value = tt;
        state = change_static k f s;
        is = refl;
        stays = tt;
        shows = subst (λ (t : State). Shows w t) (sym e) h;
        fits = tt;
      };
}

-- ---- its type

pub retyped_extended : (n m : Nodes) → m ≡ record n { p = m.p } → Extends n.p m.p → AreExtended n m
retyped_extended n m e h =
    record {
      program = extends_goes_on n.p m.p h;
      facts = ap (λ (x : Nodes). x.facts) e;
      void = ap (λ (x : Nodes). x.void) e;
      file = ap (λ (x : Nodes). x.scopes.file.now) e;
    }

static-changed : (f g : StaticState → StaticState) (k : ℕ) (s : State) (x : StaticState) →
    slice_get s.statics k ≡ Some x → f x ≡ g x → change_static k f s ≡ change_static k g s
static-changed f g k s x e q =
    ap (λ (o : Option StaticState). record s { statics = with_changed f o s.statics k }) e
    ∙ ap (λ y. record s { statics = slice_set s.statics k y }) q
    ∙ sym (ap (λ (o : Option StaticState). record s { statics = with_changed g o s.statics k }) e)

pub object_completed : (w : Work) (n m : Nodes) (k of t count : ℕ) → IsWhole w.nodes → IsObjectType w k (Some of) →
    nodes.HasType w.nodes n t (with_count (type_in w.nodes of) count) → AreExtended n m →
    ((s : State) (u : Ty) → Stands n.scopes n.p s → named (types_of n.p.types) t ≡ Some u →
    Stands m.scopes m.p (change_static k (λ (g : StaticState). record g { of = u }) s)) →
    Done freely w (record w { nodes = m }) (completes_object k count) (NothingThere (record w { nodes = m }) tt)
    (IsNothing (record w { nodes = m }) tt)
object_completed w n m k of t count whole known has e st =
    let v : Work = record w { nodes = n } in
    record {
      whole = extended_whole n m has.keeps.whole e;
      grows = keeps_then w v (record w { nodes = m }) (keeps_nodes w n has.keeps)
          (extended_keeps v m has.keeps.whole e);
      there = tt;
      gives = λ s h.
          let x = known s h in
          let a : StaticState → StaticState = λ g. record g { of = type_in n t } in
          let i : type_in n t ≡ with_count x.0.of count = has.is.is ∙ ap (λ (y : Ty). with_count y count) x.2 in
          let same : change_static k a s ≡ change_static k (counted count) s =
          static-changed a (counted count) k s x.0 x.1 (ap (λ (y : Ty). record x.0 { of = y }) i) in
          let q = shows_nodes w n s has.keeps h in
          record {
            value = tt;
            state = change_static k (counted count) s;
            is = refl;
            stays = tt;
            shows = shows_static v m w.fillings k (counted count) s has.keeps.whole e (λ g. refl)
                (subst (λ (z : State). Stands m.scopes m.p z) same
                (st s (type_in n t) q.stands (named_there n.p t has.is.there)))
                (each_changed (λ j (g : StaticState). g.initial ≡ filling_of j w.fillings.items)
                (counted count) s.statics k h.fillings (λ g r. r)) h.closed.fillings q;
            fits = tt;
          };
    }

-- ---- its initial value

abbrev pub value_of : Filling → List ℕ × List Aiming
value_of f = (f.bytes.items, map aiming_of f.starts.items)

pub pushed_filling : (fs gs : List Filling) (f : Filling) (j : ℕ) → gs ≡ fs ++ f ∷ [] →
    filling_of j gs ≡ (if f.object == j then Some (value_of f) else filling_of j fs)
pushed_filling fs gs f j e = ap (filling_of j) e ∙ fold-append _ None fs (f ∷ [])

pub pushed_below : (fs gs : List Filling) (f : Filling) (n : ℕ) → gs ≡ fs ++ f ∷ [] → f.object < n → AreBelow n fs →
    AreBelow n gs
pushed_below fs gs f n e l h j x g =
    ⊎_elim (λ a. h j x a) (λ b. subst (λ (y : Filling). y.object < n) b.1 l) (push_cases fs f x j (rw e at g))

below-there : {A : Type 0} (xs : List A) (k : ℕ) (x : A) → slice_get xs k ≡ Some x → k < length xs
below-there [] k x e = absurd cc
below-there (y ∷ xs) zero x e = omega arith
below-there (y ∷ xs) (suc k) x e = let h = below-there xs k x e in omega arith

pub filled_extended : (n m : Nodes) → m.p ≡ record n.p { globals = m.p.globals } → m.facts ≡ n.facts → m.void ≡ n.void →
    m.scopes.file.now ≡ n.scopes.file.now → AreExtended n m
filled_extended n m e f v w =
    let types : m.p.types ≡ n.p.types = ap (λ (p : Typed). p.types) e in
    record {
      program = record {
        exprs = ap (λ (p : Typed). p.exprs) e;
        stmts = ap (λ (p : Typed). p.stmts) e;
        literals = ap (λ (p : Typed). p.literals) e;
        count = rw types (omega arith);
        types = λ k l. rw types refl;
      };
      facts = f;
      void = v;
      file = w;
    }

pub object_filled : (w : Work) (m : Nodes) (gs : Vec Filling) (k of : ℕ) (f : Filling) → IsWhole w.nodes →
    IsObjectType w k (Some of) → AreExtended w.nodes m → f.object ≡ k →
    ((j : ℕ) → filling_of j gs.items ≡ (if f.object == j then Some (value_of f) else filling_of j w.fillings.items)) →
    ((n : ℕ) → f.object < n → AreBelow n w.fillings.items → AreBelow n gs.items) →
    ((s : State) (i : List ℕ × List Aiming) → Stands w.nodes.scopes w.nodes.p s →
    Stands m.scopes m.p (change_static k (λ (g : StaticState). record g { initial = Some i }) s)) →
    Done freely w (record w { nodes = m; fillings = gs }) (fills_object k f.bytes.items (map aiming_of f.starts.items))
    (NothingThere (record w { nodes = m; fillings = gs }) tt) (IsNothing (record w { nodes = m; fillings = gs }) tt)
object_filled w m gs k of f whole known e o fills below st =
    let a : StaticState → StaticState = filled f.bytes.items (map aiming_of f.starts.items) in
    let kept = extended_keeps w m whole e in
    record {
      whole = extended_whole w.nodes m whole e;
      grows = record {
        more_types = kept.more_types;
        more_terms = kept.more_terms;
        more_actions = kept.more_actions;
        types = kept.types;
        terms = kept.terms;
        values = kept.values;
        actions = kept.actions;
        file =
            kept.file;
        tree = kept.tree;
      };
      there = tt;
      gives = λ s h.
          let x = known s h in
          let l : f.object < length s.statics = rw o (below-there s.statics k x.0 x.1) in
          record {
            value = tt;
            state = change_static k a s;
            is = refl;
            stays = tt;
            shows = shows_static w m gs k a s whole e (λ g. refl) (st s (value_of f) h.stands)
                (λ j g i. initial-then j g s h x.0 x.1 i) (below (length s.statics) l h.closed.fillings) h;
            fits = tt;
          };
    }
  where
    initial-then : (j : ℕ) (g : StaticState) (s : State) → Shows w s → (x : StaticState) →
        slice_get s.statics k ≡ Some x →
        slice_get (changed_at (filled f.bytes.items (map aiming_of f.starts.items)) s.statics k) j ≡ Some g →
        g.initial ≡ filling_of j gs.items
    initial-then j g s h x i q =
        let a : StaticState → StaticState = filled f.bytes.items (map aiming_of f.starts.items) in
        let r : slice_get (slice_set s.statics k (a x)) j ≡ Some g =
        ap (λ (o : Option StaticState). slice_get (with_changed a o s.statics k) j) (sym i) ∙ q in
        ⊎_elim
        (λ b.
        let yes : (f.object == j) ≡ true = eq-eqb f.object j (o ∙ sym b.0) in
        sym (ap (λ (y : StaticState). y.initial) b.1)
        ∙ sym (ap (λ (t : Bool). if t then Some (value_of f) else filling_of j w.fillings.items) yes)
        ∙ sym (fills j))
        (λ b.
        let no : (f.object == j) ≡ false = ne_eqb f.object j (λ z. b.0 (sym z ∙ o)) in
        h.fillings j g b.1 ∙ sym (ap (λ (t : Bool). if t then Some (value_of f) else filling_of j w.fillings.items) no)
        ∙ sym (fills j))
        (set_at s.statics k j (a x) g r)

-- ---- locals

pub shows_local : (w : Work) (m : Nodes) (k : ℕ) (u : Ty) (name : List ℕ) (s : State) → IsWhole w.nodes →
    AreExtended w.nodes m → Stands m.scopes m.p (local_completed k u name s) → Shows w s →
    Shows (record w { nodes = m }) (local_completed k u name s)
shows_local w m k u name s whole e st h =
    let f : LocalState → LocalState = λ v. record v { of = u } in
    let count : length (changed_at f s.locals k) ≡ length s.locals = changed_length f s.locals k in
    record {
      stands = st;
      texts = ap (map text_of) e.program.literals ∙ h.texts;
      used_objects = h.used_objects;
      used_functions = h.used_functions;
      addressed = each_changed (λ j (v : LocalState). v.addressed ≡ is_among j w.addressed.items) f s.locals k
          h.addressed (λ v q. q);
      fillings = h.fillings;
      definitions = λ j r q. h.definitions j r q ∙ sym (extended_definition w m s j whole e h.closed);
      waiting = h.waiting;
      closed = record {
        file = e.file ∙ h.closed.file;
        members = h.closed.members;
        values = extended_values w m e h.closed.values;
        uses = h.closed.uses;
        addressed = λ j i x. rw count (h.closed.addressed j i x);
        fillings = h.closed.fillings;
        definitions = λ j d i. extended_there w m w.fillings s (local_completed k u name s) d e refl
            (h.closed.definitions j d i);
      };
    }

pub goes_on_same : (p : Typed) → GoesOn p p
goes_on_same p = record { exprs = refl; stmts = refl; literals = refl; count = omega arith; types = λ k l. refl }

pub local_completes : (w : Work) (n : Nodes) (sc : Scopes) (k t : ℕ) (u : Ty) (name : Name) → IsWhole w.nodes →
    nodes.HasType w.nodes n t u → sc.file.now ≡ n.scopes.file.now →
    ((s : State) (v : Ty) → Stands n.scopes n.p s → named (types_of n.p.types) t ≡ Some v →
    Stands sc n.p (local_completed k v (text_at n.scopes.file.now name.span) s)) →
    (let m : Work = record w { nodes = record n { scopes = sc } } in
    Done freely w m (completes_local k u (token_of w name).text) (TypeThere m t) (IsType m t))
local_completes w n sc k t u name whole has file st =
    let v : Work = record w { nodes = n } in
    let m : Nodes = record n { scopes = sc } in
    let e : AreExtended n m = record { program = goes_on_same n.p; facts = refl; void = refl; file = file } in
    record {
      whole = extended_whole n m has.keeps.whole e;
      grows = keeps_then w v (record w { nodes = m }) (keeps_nodes w n has.keeps)
          (extended_keeps v m has.keeps.whole e);
      there = has.is.there;
      gives = λ s h.
          let q = shows_nodes w n s has.keeps h in
          let read : n.scopes.file.now ≡ w.file.now = has.keeps.file ∙ h.closed.file in
          record {
            value = u;
            state = local_completed k u (token_of w name).text s;
            is = refl;
            stays = tt;
            shows = shows_local v m k u (token_of w name).text s has.keeps.whole e
                (subst (λ (file : List ℕ). Stands sc n.p (local_completed k u (text_at file name.span) s)) read
                (st s u q.stands (named_there n.p t has.is.there ∙ ap (λ (y : Ty). Some y) has.is.is))) q;
            fits = sym has.is.is;
          };
    }

-- its initial bytes and pointers from what was found
pub found_filled : (u w : Work) (k : ℕ) (found : Found) (bytes : List ℕ) (end : ℕ) (ps : List Placed) (ss : List Start)
    (r : Result Unit Refusal) → ps ≡ found.numbers.items → ss ≡ found.starts.items →
    pointers_end (map aiming_of ss) ≡ end →
    ((ls : List Aiming) → pointers_end ls ≡ end → bytes ≡ initial_bytes (map placed_of ps) ls) →
    Answers freely u w (fills_object k bytes (map aiming_of found.starts.items)) NothingThere IsNothing r →
    Answers freely u w (fills_found k (found_seen found)) NothingThere IsNothing r
found_filled u w k found bytes end ps ss r p q g h a =
    let ls = map aiming_of found.starts.items in
    let e : bytes ≡ initial_bytes (map placed_of found.numbers.items) ls =
    h ls (ap (λ (l : List Start). pointers_end (map aiming_of l)) (sym q) ∙ g)
    ∙ ap (λ (l : List Placed). initial_bytes (map placed_of l) ls) p in
    subst (λ (bs : List ℕ). Answers freely u w (fills_object k bs ls) NothingThere IsNothing r) e a

-- ---- all of it

-- what comes behind the type of an object, and behind its values
abbrev pub rest_filled : ℕ → Pos → statics.Found → Doing Unit
rest_filled k p found = object_complete k p >> fills_found k found

pub static_steps : (u v w : Work) (k : ℕ) (p : Pos) (f : Filled) (r : Result Unit Refusal) →
    Done freely u v (completes_object k f.count) (NothingThere v tt) (IsNothing v tt) →
    AreSlotsThere u.nodes f.slots.items →
    Answers freely v w (start_slots (slots_in v.nodes f.slots.items) >>= rest_filled k p) NothingThere IsNothing r →
    Answers freely u w (static_filled k p (filled_in u.nodes f)) NothingThere IsNothing r
static_steps u v w k p f r d there a =
    let b = also_then freely free_law u v w (completes_object k f.count)
    (start_slots (slots_in v.nodes f.slots.items) >>= rest_filled k p) (NothingThere v tt)
    (IsNothing v tt) NothingThere IsNothing r d a in
    answers_at freely u w (static_filled k p (filled_in u.nodes f))
    (completes_object k f.count >> (start_slots (slots_in v.nodes f.slots.items) >>= rest_filled k p)) NothingThere
    IsNothing r
    (λ s h. ap (λ xs. (completes_object k f.count >> (start_slots xs >>= rest_filled k p)) s)
    (sym (work_slots_kept u v f.slots.items d.grows there))) b

pub found_steps : (u v w : Work) (xs : List meant.Slot) (found : Found) (k : ℕ) (p : Pos) (r : Result Unit Refusal) →
    Done freely u v (start_slots xs) (FoundThere v found) (IsFound v found) →
    Answers freely v w (rest_filled k p (found_seen found)) NothingThere IsNothing r →
    Answers freely u w (start_slots xs >>= rest_filled k p) NothingThere IsNothing r
found_steps u v w xs found k p r d a =
    (then) freely free_law u v w (start_slots xs) (rest_filled k p) (found_seen found)
    (FoundThere v found) NothingThere IsNothing r d a

pub found_fails : (u v : Work) (xs : List meant.Slot) (k : ℕ) (p : Pos) (e : Refusal) →
    Answers freely u v (start_slots xs) FoundThere IsFound (Err e) →
    Answers freely u v (start_slots xs >>= rest_filled k p) NothingThere IsNothing (Err e)
found_fails u v xs k p e a =
    failed freely u v v (start_slots xs) (rest_filled k p) FoundThere IsFound NothingThere IsNothing e a

pub rest_steps : (v w : Work) (found : Found) (k : ℕ) (p : Pos) (r : Result Unit Refusal) →
    Done quietly v v (object_complete k p) (NothingThere v tt) (IsNothing v tt) →
    Answers freely v w (fills_found k (found_seen found)) NothingThere IsNothing r →
    Answers freely v w (rest_filled k p (found_seen found)) NothingThere IsNothing r
rest_steps v w found k p r d a =
    also_then freely free_law v v w (object_complete k p) (fills_found k (found_seen found)) (NothingThere v tt)
    (IsNothing v tt) NothingThere IsNothing r (freed v v (object_complete k p) NothingThere IsNothing (Ok tt) d) a

pub rest_fails : (v : Work) (found : Found) (k : ℕ) (p : Pos) (e : Refusal) →
    Answers quietly v v (object_complete k p) NothingThere IsNothing (Err e) →
    Answers freely v v (rest_filled k p (found_seen found)) NothingThere IsNothing (Err e)
rest_fails v found k p e a =
    failed freely v v v (object_complete k p)
    (λ x. fills_found k (found_seen found)) NothingThere IsNothing NothingThere IsNothing e
    (freed v v (object_complete k p) NothingThere IsNothing (Err e) a)

-- what comes behind the type of a local
abbrev pub local_rest : Pos → Pos → List meant.Slot → Ty → Doing (List meant.Slot)
local_rest p whole xs u = complete_now u p >> every_slot_of whole u xs

looked : {A : Type 0} (r : Result (Unit {0} × State) Fault) (f : State → A) →
    continued (continued r (λ x. look)) (λ s. give (f s)) ≡ continued r (λ x. look >>= λ s. give (f s))
looked (Ok x) f = refl
looked (Err e) f = refl

local-split : (k : ℕ) (t : Lexeme) (of : Ty) (whole : Pos) (f : meant.Filled) (s : State) →
    local_filled k t of whole f s ≡ (completes_local k (with_count of f.count) t.text
    >>= local_rest t.pos whole f.slots) s
local-split k t of whole f s =
    let u = with_count of f.count in
    looked (complete_now u t.pos (local_completed k u t.text s)) (λ s. every_slot s whole u f.slots)

pub local_steps : (u v w : Work) (k of t : ℕ) (name : Name) (whole : Pos) (f : Filled) (r : Result (Vec Slot) Refusal) →
    Done freely u v (completes_local k (with_count (type_in u.nodes of) f.count) (token_of u name).text) (TypeThere v t)
    (IsType v t) → AreSlotsThere u.nodes f.slots.items →
    Answers freely v w (local_rest name.pos whole (slots_in v.nodes f.slots.items) (type_in v.nodes t)) SlotsThere
    AreSlots r → Answers freely u w (local_filled k (token_of u name) (type_in u.nodes of) whole
    (filled_in u.nodes f)) SlotsThere AreSlots r
local_steps u v w k of t name whole f r d there a =
    let x = token_of u name in
    let c = completes_local k (with_count (type_in u.nodes of) f.count) x.text in
    let xs = slots_in u.nodes f.slots.items in
    answers_at freely u w (local_filled k x (type_in u.nodes of) whole (filled_in u.nodes f))
    (c >>= local_rest name.pos whole xs) SlotsThere AreSlots r
    (λ s h. local-split k x (type_in u.nodes of) whole (filled_in u.nodes f) s)
    ((then) freely free_law u v w c (local_rest name.pos whole xs) (type_in v.nodes t)
    (TypeThere v t) SlotsThere AreSlots r d
    (answers_at freely v w (local_rest name.pos whole xs (type_in v.nodes t))
    (local_rest name.pos whole (slots_in v.nodes f.slots.items) (type_in v.nodes t)) SlotsThere AreSlots r
    (λ s h. ap (λ ys. local_rest name.pos whole ys (type_in v.nodes t) s)
    (sym (work_slots_kept u v f.slots.items d.grows there))) a))

pub slots_step : (v w : Work) (p whole : Pos) (xs : List meant.Slot) (u : Ty) (r : Result (Vec Slot) Refusal) →
    Done quietly v v (complete_now u p) (NothingThere v tt) (IsNothing v tt) →
    Answers quietly v w (every_slot_of whole u xs) SlotsThere AreSlots r →
    Answers freely v w (local_rest p whole xs u) SlotsThere AreSlots r
slots_step v w p whole xs u r d a =
    also_then freely free_law v v w (complete_now u p) (every_slot_of whole u xs) (NothingThere v tt)
    (IsNothing v tt) SlotsThere AreSlots r (freed v v (complete_now u p) NothingThere IsNothing (Ok tt) d)
    (freed v w (every_slot_of whole u xs) SlotsThere AreSlots r a)
