-- Functions that are declared.
use Rattle.std.proofs.Common.{◌≡◌, ℕ, ◌<◌, Bool, true, false, length, List, [], ◌∷◌, ◌++◌, Option, Some, None, refl}
use Rattle.std.proofs.Common.{sym, ap, subst, ◌∙◌}
use Rattle.std.specs.Prelude.{slice_get, option_map}
use Rattle.std.specs.Global.{Vec}
use Rattle.std.proofs.lemmas.List.{map_push, length-map}
use Rattle.std.proofs.lemmas.Option.{same_Some}
use Rattle.ck_base.specs.Tokens.{Lexeme}
use Rattle.c_tree.specs.declared.typed.Typed.{Typed}
use Rattle.c_tree.specs.declared.typed.FunDef.{FunDef}
use Rattle.c_tree.specs.declared.typed.VarDef.{VarDef}
use Rattle.c_tree.specs.Types.{Ty, composite}
use Rattle.c_tree.specs.Views.{types_of}
use Rattle.c_tree.specs.Scopes as meant
use Rattle.c_tree.specs.Scopes.{State, RoutineState, Body, bind_name, change_routine, changed_at, continued, ◌>>=◌}
use Rattle.c_tree.specs.Declarations.{new_routine, known_routine, linked_routine}
use Rattle.c_interner.specs.Numbers.{type_named}
use Rattle.c_types.specs.declared.entries.Decl.{Decl}
use Rattle.c_types.specs.declared.entries.Entity.{Entity}
use Rattle.c_types.specs.declared.entries.Entity.TheVariants as kept
use Rattle.c_types.specs.declared.entries.Entry.{Entry}
use Rattle.c_types.specs.declared.entries.Entry.TheVariants as entries
use Rattle.c_types.specs.declared.scopes.Scopes.{Scopes}
use Rattle.c_types.specs.Calls.{Given, IsEntity}
use Rattle.c_types.specs.Declares.{name_of, function_of}
use Rattle.c_types.specs.Naming.{IsNumber, begins, function_entry}
use Rattle.c_types.specs.Stands.{Stands, Declared, entity_kept, entity_seen, routine_seen, fun_kept, declared_at, named}
use Rattle.c_types.specs.Stands.{Seen, library, text_at}
use Rattle.c_types.proofs.Looking.{seen_at}
use Rattle.c_types.proofs.Judged.{named_there}
use Rattle.c_types.proofs.Changing.{changed_same, routines_changed}
use Rattle.c_types.proofs.Added.{locals_taken}

-- ---- new functions

pub begun_same : (sc : Scopes) (v : Vec Bool) (p : Typed) (s : State) → Stands sc p s → v.items ≡ sc.begun.items →
    Stands (record sc { begun = v }) p s
begun_same sc v p s h g = record {
  scopes = h.scopes;
  tags = h.tags;
  tag_types = h.tag_types;
  kinds = h.kinds;
  tagged = h.tagged;
  members = h.members;
  objects = h.objects;
  globals = h.globals;
  begun = g ∙ h.begun;
  routines = h.routines;
  locals = h.locals;
  int = h.int;
  linked = h.linked;
}

pushed : {A : Type 0} (xs ys : List A) (x y : A) → xs ≡ ys → x ≡ y → xs ++ x ∷ [] ≡ ys ++ y ∷ []
pushed xs ys x y d f = cc

routine_added : (sc : Scopes) (v : Vec Bool) (p : Typed) (fs : List FunDef) (s : State) (x : FunDef)
    (y : RoutineState) → Stands sc p s → v.items ≡ sc.begun.items ++ y.begun ∷ [] → fs ≡ p.funs ++ x ∷ [] →
    fun_kept sc.file.now (types_of p.types) x ≡ routine_seen y →
    Stands (record sc { begun = v }) (record p { funs = fs }) (record s { routines = s.routines ++ y ∷ [] })
routine_added sc v p fs s x y h g e w = record {
  scopes = h.scopes;
  tags = h.tags;
  tag_types = h.tag_types;
  kinds = h.kinds;
  tagged = h.tagged;
  members = h.members;
  objects = h.objects;
  globals = h.globals;
  begun = g ∙ pushed _ _ _ _ h.begun refl ∙ sym (map_push (λ (f : RoutineState). f.begun) s.routines y);
  routines = rw e (map_push (fun_kept sc.file.now (types_of p.types)) p.funs x ∙ pushed _ _ _ _ h.routines w
      ∙ sym (map_push routine_seen s.routines y));
  locals = h.locals;
  int = h.int;
  linked = h.linked;
}

pub routine_given : (sc sb : Scopes) (v : Vec Bool) (p : Typed) (fs : List FunDef) (s : State) (d : Decl) (k : ℕ)
    (x : FunDef) → Stands sc p s → d.of < length p.types → k ≡ length sc.begun.items →
    Stands sb p (bind_name (text_at sc.file.now d.name) (meant.Routine k) s) → sb.file.now ≡ sc.file.now →
    v.items ≡ sb.begun.items ++ false ∷ [] → fs ≡ p.funs ++ x ∷ [] →
    ((file : List ℕ) (ts : List Ty) → fun_kept file ts x ≡ declared_at file ts d.name d.pos d.of) →
    Given (record sb { begun = v }) (record p { funs = fs }) (new_routine (name_of sc.file.now d) (type_named p d.of) s)
    (IsNumber k)
routine_given sc sb v p fs s d k x h lt n b f g i w =
    let t = name_of sc.file.now d in
    let of = type_named p d.of in
    let l : k ≡ length s.routines = n ∙ (simp length-map at (ap length h.begun)) in
    let z : RoutineState = record { name = t; of = of; begun = false; body = None; used = None } in
    record {
      value = length s.routines;
      state = bind_name t.text (meant.Routine (length s.routines)) (record s { routines = s.routines ++ z ∷ [] });
      is = refl;
      stands = rw (← l)
          (routine_added sb v p fs (bind_name t.text (meant.Routine k) s) x z b g i
          (rw f (w sc.file.now (types_of p.types)
          ∙ ap (λ o. record (declared_at sc.file.now (types_of p.types) d.name d.pos d.of) { of = o })
          (named_there p d.of lt))));
      fits = sym l;
    }

-- ---- functions that are known

pub routine_type : (sc : Scopes) (p : Typed) (s : State) (k : ℕ) (x : FunDef) (y : RoutineState) → Stands sc p s →
    slice_get p.funs k ≡ Some x → slice_get s.routines k ≡ Some y → named (types_of p.types) x.of ≡ Some y.of
routine_type sc p s k x y h e f =
    let z = seen_at (fun_kept sc.file.now (types_of p.types)) routine_seen p.funs s.routines k x h.routines e in
    let i : z.0 ≡ y = same_Some z.0 y (sym z.1 ∙ f) in
    ap (λ (d : Declared). d.of) z.2 ∙ ap (λ (g : RoutineState). Some g.of) i

retyped_fun : (file : List ℕ) (ts : List Ty) (x : FunDef) (y : RoutineState) (u : ℕ) (t : Ty) →
    fun_kept file ts x ≡ routine_seen y → named ts u ≡ Some t →
    fun_kept file ts (record x { of = u }) ≡ routine_seen (record y { of = t })
retyped_fun file ts x y u t e f =
    ap (λ (d : Declared). record d { of = named ts u }) e ∙ ap (λ o. record (routine_seen y) { of = o }) f

pub routine_changed : (sc : Scopes) (p : Typed) (fs : List FunDef) (s : State) (k u : ℕ) (t : Ty) → Stands sc p s →
    fs ≡ changed_at (λ (f : FunDef). record f { of = u }) p.funs k →
    ((x : FunDef) (y : RoutineState) → slice_get p.funs k ≡ Some x → slice_get s.routines k ≡ Some y →
    named (types_of p.types) u ≡ Some (composite y.of t)) →
    Stands sc (record p { funs = fs }) (change_routine k (λ (f : RoutineState). record f { of = composite f.of t }) s)
routine_changed sc p fs s k u t h e m =
    routines_changed sc sc.begun p fs s k (λ (b : Bool). b) (λ (f : FunDef). record f { of = u })
    (λ (f : RoutineState). record f { of = composite f.of t }) h
    (sym (changed_same sc.begun.items k)) e (λ y. refl)
    (λ x y a b g. retyped_fun sc.file.now (types_of p.types) x y u (composite y.of t) g (m x y a b))

pub again_given : (sd : Scopes) (q : Typed) (s : State) (k : ℕ) (t : Ty) →
    Stands sd q (change_routine k (λ (f : RoutineState). record f { of = composite f.of t }) s) →
    Given sd q (known_routine k t s) (IsNumber k)
again_given sd q s k t h = record {
  value = k;
  state = change_routine k (λ (f : RoutineState). record f { of = composite f.of t }) s;
  is = refl;
  stands = h;
  fits = refl;
}

-- ---- the function of a name

-- what is seen of the name of a function tells whether it is a library function's
abbrev library_in : Option Seen → Option ℕ
library_in (Some (library k of)) = Some k
library_in x = None

abbrev entry_by : Option ℕ → ℕ → Entry
entry_by (Some j) k = entries.Library j
entry_by None k = entries.Fun k

entry_is : (ts : List Ty) (o : Option Entity) (k : ℕ) →
    function_entry o k ≡ entry_by (library_in (option_map (entity_kept ts) o)) k
entry_is ts None k = refl
entry_is ts (Some (kept.Local j t)) k = refl
entry_is ts (Some (kept.Static j)) k = refl
entry_is ts (Some (kept.Routine j)) k = refl
entry_is ts (Some (kept.Alias t)) k = refl
entry_is ts (Some (kept.Enumerator z)) k = refl
entry_is ts (Some (kept.Library j t)) k = refl

entity_is : (q : Typed) (e : Option meant.Entity) (k : ℕ) →
    IsEntity q (entry_by (library_in (option_map entity_seen e)) k) (function_of e k)
entity_is q None k = refl
entity_is q (Some (meant.Local j t)) k = refl
entity_is q (Some (meant.Static j)) k = refl
entity_is q (Some (meant.Routine j)) k = refl
entity_is q (Some (meant.Alias t)) k = refl
entity_is q (Some (meant.Enumerator z)) k = refl
entity_is q (Some (meant.Library j t)) k = (t, refl)

pub function_is : (ts : List Ty) (q : Typed) (o : Option Entity) (e : Option meant.Entity) (k : ℕ) →
    option_map (entity_kept ts) o ≡ option_map entity_seen e → IsEntity q (function_entry o k) (function_of e k)
function_is ts q o e k h =
    subst (λ x. IsEntity q x (function_of e k)) (sym (entry_is ts o k ∙ ap (λ x. entry_by (library_in x) k) h))
    (entity_is q e k)

-- ---- definitions

begun_fun : (file : List ℕ) (ts : List Ty) (d : Decl) (x : FunDef) (y : RoutineState) →
    fun_kept file ts x ≡ routine_seen y →
    fun_kept file ts (record x { name = d.name; pos = d.pos })
    ≡ routine_seen (record y { name = name_of file d; begun = true })
begun_fun file ts d x y e =
    ap (λ (z : Declared). record z { text = text_at file d.name; span = d.name; place = d.pos }) e

pub begun_stands : (sc : Scopes) (v : Vec Bool) (w : Vec VarDef) (p : Typed) (fs : List FunDef) (s : State) (k : ℕ)
    (d : Decl) → Stands sc p s → v.items ≡ changed_at (λ (b : Bool). true) sc.begun.items k →
    fs ≡ changed_at (λ (f : FunDef). record f { name = d.name; pos = d.pos }) p.funs k → w.items ≡ [] →
    Stands (record sc { begun = v; locals = w }) (record p { funs = fs })
    (change_routine k (λ (r : RoutineState). record r { name = name_of sc.file.now d; begun = true })
    (record s { locals = [] }))
begun_stands sc v w p fs s k d h e f g =
    let l = locals_taken sc w p s h g in
    routines_changed (record sc { locals = w }) v p fs (record s { locals = [] }) k (λ (b : Bool). true)
    (λ (x : FunDef). record x { name = d.name; pos = d.pos })
    (λ (r : RoutineState). record r { name = name_of sc.file.now d; begun = true }) l e f
    (λ y. refl) (λ x y a b m. begun_fun sc.file.now (types_of p.types) d x y m)

pub definition_given : (sc sd : Scopes) (p q : Typed) (s : State) (t : Lexeme) (of : Ty) (e : Option meant.Entity)
    (k : ℕ) → Given sc p (linked_routine t of e s) (IsNumber k) →
    ((u : State) → Stands sc p u →
    Stands sd q (change_routine k (λ (r : RoutineState). record r { name = t; begun = true })
    (record u { locals = [] }))) → Given sd q ((linked_routine t of e >>= begins t) s) (IsNumber k)
definition_given sc sd p q s t of e k g h = record {
  value = g.value;
  state = change_routine g.value (λ (r : RoutineState). record r { name = t; begun = true })
      (record g.state { locals = [] });
  is = ap (λ r. continued r (begins t)) g.is;
  stands = subst (λ j. Stands sd q (change_routine j (λ (r : RoutineState). record r { name = t; begun = true })
      (record g.state { locals = [] }))) (sym g.fits) (h g.state g.stands);
  fits = g.fits;
}

-- ---- bodies

pub body_stands : (sc : Scopes) (p : Typed) (fs : List FunDef) (s : State) (k : ℕ) (params : List ℕ)
    (vars : List VarDef) (body : ℕ) (b : Body) → Stands sc p s →
    fs ≡ changed_at (λ (f : FunDef). record f { params = params; vars = vars; body = body }) p.funs k →
    Stands sc (record p { funs = fs }) (change_routine k (λ (r : RoutineState). record r { body = Some b }) s)
body_stands sc p fs s k params vars body b h e =
    routines_changed sc sc.begun p fs s k (λ (t : Bool). t)
    (λ (f : FunDef). record f { params = params; vars = vars; body = body })
    (λ (r : RoutineState). record r { body = Some b }) h
    (sym (changed_same sc.begun.items k)) e (λ y. refl) (λ x y u v g. g)
