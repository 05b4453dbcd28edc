-- What the work shows once a name is declared.
use Rattle.std.proofs.Common.{◌≡◌, ℕ, zero, suc, ◌+◌, ◌<◌, ◌≤◌, Bool, true, false, ◌⊎◌, inl, inr, ⊎_elim, List, [], ◌∷◌}
use Rattle.std.proofs.Common.{◌++◌, length, map, Some, None, Result, Ok, Err, refl, sym, ap, subst, ◌∙◌, arith}
use Rattle.std.proofs.Common.{length-append}
use Rattle.std.specs.Prelude.{slice_get, ◌==◌, ◌||◌, if◌then◌else◌}
use Rattle.std.specs.Global.{Vec}
use Rattle.std.proofs.lemmas.Bool.{ne_eqb}
use Rattle.ck_base.specs.declared.positions.Pos.{Pos}
use Rattle.ck_base.specs.declared.refusal.Refusal.{Refusal}
use Rattle.ck_base.specs.declared.refusal.Refusal.TheVariants.{Code, NoMemory}
use Rattle.c_tree.specs.declared.typed.Typed.{Typed}
use Rattle.c_tree.specs.declared.typed.VarDef.{VarDef}
use Rattle.c_tree.specs.Scopes.{StaticState, RoutineState, LocalState, State}
use Rattle.c_tree.specs.Declarators.{Formed}
use Rattle.c_tree.specs.Views.{types_of, actions_of, text_of}
use Rattle.c_types.specs.declared.scopes.Scopes.{Scopes}
use Rattle.c_types.specs.declared.entries.Decl.{Decl}
use Rattle.c_types.specs.declared.entries.DeclKind.{DeclKind}
use Rattle.c_types.specs.declared.entries.DeclKind.TheVariants as kinds
use Rattle.c_types.specs.declared.entries.Entry.{Entry}
use Rattle.c_types.specs.Stands.{Stands}
use Rattle.c_types.specs.Calls.{Does, Extends, IsDeclared, Declares, DeclaresKind}
use Rattle.c_types.specs.Calls as types
use Rattle.c_types.specs.Declares.{declares_named, declares_definition, storage_of, name_of, formed_of}
use Rattle.c_types.specs.Naming.{IsNumber}
use Rattle.c_types.proofs.Looking.{seen_at, seen_length}
use Rattle.c_expressions.specs.declared.nodes.Nodes.{Nodes}
use Rattle.c_expressions.specs.Nodes.{IsWhole, type_count}
use Rattle.c_elaborator.specs.declared.work.Used.{Used}
use Rattle.c_elaborator.specs.declared.work.Used.TheVariants as used
use Rattle.c_elaborator.specs.declared.work.Use.{Use}
use Rattle.c_elaborator.specs.declared.work.Filling.{Filling}
use Rattle.c_elaborator.specs.declared.work.Definition.{Definition}
use Rattle.c_elaborator.specs.declared.work.Work.{Work}
use Rattle.c_elaborator.specs.Work.{Shows, IsClosed, DefinitionIsThere, UseIsThere, is_object, is_function, first_place}
use Rattle.c_elaborator.specs.Work.{is_among, filling_of, definition_of, option_seen, body_seen, seen_of}
use Rattle.c_elaborator.specs.Answers.{Keeps, freely, Done, Answers}
use Rattle.c_elaborator.proofs.Extending.{AreExtended, extends_goes_on, extended_whole, extended_keeps, extended_values}
use Rattle.c_elaborator.proofs.Extending.{extended_definition}
use Rattle.c_statements.specs.Declaring.{declares, begins, EntryThere, IsEntry, FunctionThere, IsFunction, BeginsIn}
use Rattle.c_statements.proofs.Leaving.{AddsFresh, static_facts, no_static, routine_facts, no_routine, Enters, Begins}
use Rattle.c_statements.proofs.Leaving.{named_leaves, definition_leaves}

-- ---- what is there, and what is new

abbrev Known : {A B : Type 0} → (A → B) → B → List A → ℕ → A → Type 0
Known {A} of none xs k y = ((x : A) × (slice_get xs k ≡ Some x) × (of y ≡ of x)) ⊎ ((k ≡ length xs) × (of y ≡ none))

one_known : {A B : Type 0} (of : A → B) (none : B) (xs ys : List A) (k : ℕ) (y : A) →
    map of ys ≡ map of xs ++ none ∷ [] → slice_get ys k ≡ Some y → Known of none xs k y
one_known of none [] [] k y e g = absurd cc
one_known of none [] (z ∷ []) zero y e g =
    inr (refl, (let a : of z ≡ none = cc in let b : z ≡ y = cc in ap of (sym b) ∙ a))
one_known of none [] (z ∷ []) (suc k) y e g = absurd cc
one_known of none [] (z ∷ u ∷ zs) k y e g = absurd cc
one_known of none (x ∷ xs) [] k y e g = absurd cc
one_known of none (x ∷ xs) (z ∷ zs) zero y e g =
    inl (x, refl, (let a : of z ≡ of x = cc in let b : z ≡ y = cc in ap of (sym b) ∙ a))
one_known of none (x ∷ xs) (z ∷ zs) (suc k) y e g =
    ⊎_elim (λ a. inl (a.0, a.1, a.2)) (λ b. inr (ap suc b.0, b.1))
    (one_known of none xs zs k y (let a : map of zs ≡ map of xs ++ none ∷ [] = cc in a) g)

known : {A B : Type 0} (of : A → B) (none : B) (xs ys : List A) (k : ℕ) (y : A) → AddsFresh of none xs ys →
    slice_get ys k ≡ Some y → Known of none xs k y
known of none xs ys k y (inl e) g = let a = seen_at of of ys xs k y e g in inl (a.0, a.1, a.2)
known of none xs ys k y (inr e) g = one_known of none xs ys k y e g

one_longer : {A B : Type 0} (of : A → B) (none : B) (xs ys : List A) → map of ys ≡ map of xs ++ none ∷ [] →
    length xs ≤ length ys
one_longer of none [] ys e = omega arith
one_longer of none (x ∷ xs) [] e = absurd cc
one_longer of none (x ∷ xs) (y ∷ ys) e =
    let f = one_longer of none xs ys (let a : map of ys ≡ map of xs ++ none ∷ [] = cc in a) in omega arith

longer : {A B : Type 0} (of : A → B) (none : B) (xs ys : List A) → AddsFresh of none xs ys → length xs ≤ length ys
longer of none xs ys (inl e) = let f : length ys ≡ length xs = seen_length of of ys xs e in omega arith
longer of none xs ys (inr e) = one_longer of none xs ys e

-- ---- nothing is known of a number that is past the end

below_other : (j n : ℕ) → j < n → (j == n) ≡ false
below_other j n l = ne_eqb j n (λ e. absurd (omega arith))

not_object : (n m : ℕ) (x : Used) → UseIsThere n m x → is_object n x ≡ false
not_object n m (used.Object j) l = below_other j n l
not_object n m (used.Function j) l = refl

not_function : (n m : ℕ) (x : Used) → UseIsThere n m x → is_function m x ≡ false
not_function n m (used.Object j) l = refl
not_function n m (used.Function j) l = below_other j m l

no_place : (test : Used → Bool) (us : List Use) → ((k : ℕ) (u : Use) → slice_get us k ≡ Some u → test u.what ≡ false) →
    first_place test us ≡ None
no_place test [] h = refl
no_place test (u ∷ us) h =
    ap (λ b. if b then Some u.pos else first_place test us) (h 0 u refl) ∙ no_place test us (λ k v e. h (suc k) v e)

no_filling : (n : ℕ) (fs : List Filling) → ((k : ℕ) (f : Filling) → slice_get fs k ≡ Some f → f.object < n) →
    filling_of n fs ≡ None
no_filling n [] h = refl
no_filling n (f ∷ fs) h = rw (below_other f.object n (h 0 f refl)) (no_filling n fs (λ k g e. h (suc k) g e))

no_definition : (n : ℕ) (ds : List Definition) → ((k : ℕ) (d : Definition) → slice_get ds k ≡ Some d → d.function < n) →
    definition_of n ds ≡ None
no_definition n [] h = refl
no_definition n (d ∷ ds) h = rw (below_other d.function n (h 0 d refl)) (no_definition n ds (λ k e i. h (suc k) e i))

not_among : (n : ℕ) (ks : List ℕ) → ((k j : ℕ) → slice_get ks k ≡ Some j → j < n) → is_among n ks ≡ false
not_among n [] h = refl
not_among n (j ∷ ks) h = ap (λ b. b || is_among n ks) (below_other j n (h 0 j refl))
    ∙ not_among n ks (λ k i e. h (suc k) i e)

use_there : (a b n m : ℕ) (x : Used) → a ≤ n → b ≤ m → UseIsThere a b x → UseIsThere n m x
use_there a b n m (used.Object j) l k h = omega arith
use_there a b n m (used.Function j) l k h = omega arith

-- ---- the work

abbrev pub with_declared : Work → Scopes → Typed → Vec ℕ → Work
with_declared w sc q ks = record w { nodes = record w.nodes { p = q; scopes = sc }; addressed = ks }

extended : (w : Work) (sc : Scopes) (q : Typed) → Extends w.nodes.p q → sc.file.now ≡ w.nodes.scopes.file.now →
    AreExtended w.nodes (record w.nodes { p = q; scopes = sc })
extended w sc q e f = record { program = extends_goes_on w.nodes.p q e; facts = refl; void = refl; file = f }

whole_declared : (w : Work) (sc : Scopes) (q : Typed) → IsWhole w.nodes → Extends w.nodes.p q →
    sc.file.now ≡ w.nodes.scopes.file.now → IsWhole (record w.nodes { p = q; scopes = sc })
whole_declared w sc q h e f = extended_whole w.nodes (record w.nodes { p = q; scopes = sc }) h (extended w sc q e f)

keeps_declared : (w : Work) (sc : Scopes) (q : Typed) (ks : Vec ℕ) → IsWhole w.nodes → Extends w.nodes.p q →
    sc.file.now ≡ w.nodes.scopes.file.now → Keeps w (with_declared w sc q ks)
keeps_declared w sc q ks h e f =
    let k = extended_keeps w (record w.nodes { p = q; scopes = sc }) h (extended w sc q e f) in
    record {
      more_types = k.more_types;
      more_terms = k.more_terms;
      more_actions = k.more_actions;
      types = k.types;
      terms = k.terms;
      values = k.values;
      actions = k.actions;
      file = refl;
      tree = refl;
    }

module _ (w : Work) (sc : Scopes) (q : Typed) (ks : Vec ℕ) (s t : State) (whole : IsWhole w.nodes)
    (ext : Extends w.nodes.p q) (fl : sc.file.now ≡ w.nodes.scopes.file.now) (h : Shows w s)
    (statics : AddsFresh static_facts no_static s.statics t.statics)
    (routines : AddsFresh routine_facts no_routine s.routines t.routines) where
  objects_used : (k : ℕ) (g : StaticState) → slice_get t.statics k ≡ Some g →
      g.used ≡ first_place (is_object k) w.uses.items
  objects_used k g e =
      ⊎_elim
      (λ a. ap (λ x. x.1) a.2 ∙ h.used_objects k a.0 a.1)
      (λ b. ap (λ x. x.1) b.1 ∙ sym (ap (λ n. first_place (is_object n) w.uses.items) b.0
      ∙ no_place (is_object (length s.statics)) w.uses.items
      (λ j u i. not_object (length s.statics) (length s.routines) u.what (h.closed.uses j u i))))
      (known static_facts no_static s.statics t.statics k g statics e)

  functions_used : (k : ℕ) (f : RoutineState) → slice_get t.routines k ≡ Some f →
      f.used ≡ first_place (is_function k) w.uses.items
  functions_used k f e =
      ⊎_elim
      (λ a. ap (λ x. x.1) a.2 ∙ h.used_functions k a.0 a.1)
      (λ b. ap (λ x. x.1) b.1 ∙ sym (ap (λ n. first_place (is_function n) w.uses.items) b.0
      ∙ no_place (is_function (length s.routines)) w.uses.items
      (λ j u i. not_function (length s.statics) (length s.routines) u.what (h.closed.uses j u i))))
      (known routine_facts no_routine s.routines t.routines k f routines e)

  objects_filled : (k : ℕ) (g : StaticState) → slice_get t.statics k ≡ Some g →
      g.initial ≡ filling_of k w.fillings.items
  objects_filled k g e =
      ⊎_elim
      (λ a. ap (λ x. x.0) a.2 ∙ h.fillings k a.0 a.1)
      (λ b. ap (λ x. x.0) b.1 ∙ sym (ap (λ n. filling_of n w.fillings.items) b.0
      ∙ no_filling (length s.statics) w.fillings.items h.closed.fillings))
      (known static_facts no_static s.statics t.statics k g statics e)

  functions_defined : (k : ℕ) (f : RoutineState) → slice_get t.routines k ≡ Some f →
      option_seen body_seen f.body ≡ option_seen (seen_of (types_of q.types) (actions_of q))
      (definition_of k w.definitions.items)
  functions_defined k f e =
      ⊎_elim
      (λ a. ap (option_seen body_seen) (ap (λ x. x.0) a.2) ∙ h.definitions k a.0 a.1
      ∙ sym (extended_definition w (record w.nodes { p = q; scopes = sc }) s k whole
      (extended w sc q ext fl) h.closed))
      (λ b. ap (option_seen body_seen) (ap (λ x. x.0) b.1)
      ∙ sym (ap (option_seen (seen_of (types_of q.types) (actions_of q)))
      (ap (λ n. definition_of n w.definitions.items) b.0
      ∙ no_definition (length s.routines) w.definitions.items
      (λ j d i. (h.closed.definitions j d i).function))))
      (known routine_facts no_routine s.routines t.routines k f routines e)

  definition_there : (d : Definition) → DefinitionIsThere w s d → DefinitionIsThere (with_declared w sc q ks) t d
  definition_there d a = record {
    function = (let l : length s.routines ≤ length t.routines =
        longer routine_facts no_routine s.routines t.routines routines in
        let f : d.function < length s.routines = a.function in omega arith);
    body = rw ext.stmts a.body;
    vars = λ j v g. (let f : v.of < length w.nodes.p.types = a.vars j v g in
        let l : length w.nodes.p.types ≤ length q.types = ext.count in omega arith);
  }

  closed_declared : t.tags ≡ s.tags → ((k j : ℕ) → slice_get ks.items k ≡ Some j → j < length t.locals) →
      IsClosed (with_declared w sc q ks) t
  closed_declared tags there =
      let objects : length s.statics ≤ length t.statics = longer static_facts no_static s.statics t.statics statics in
      let functions : length s.routines ≤ length t.routines =
      longer routine_facts no_routine s.routines t.routines routines in
      record {
        file = fl ∙ h.closed.file;
        members = λ n g ms i j k m e. h.closed.members n g ms (rw tags at i) j k m e;
        values = extended_values w (record w.nodes { p = q; scopes = sc }) (extended w sc q ext fl) h.closed.values;
        uses = λ k u e. use_there (length s.statics) (length s.routines) (length t.statics)
            (length t.routines) u.what objects functions (h.closed.uses k u e);
        addressed = there;
        fillings = λ k f e. (let l : f.object < length s.statics = h.closed.fillings k f e in omega arith);
        definitions = λ k d e. definition_there d (h.closed.definitions k d e);
      }

  shows_declared : Stands sc q t → t.tags ≡ s.tags → t.texts ≡ s.texts → t.pending ≡ s.pending →
      ((k : ℕ) (v : LocalState) → slice_get t.locals k ≡ Some v → v.addressed ≡ is_among k ks.items) →
      ((k j : ℕ) → slice_get ks.items k ≡ Some j → j < length t.locals) → Shows (with_declared w sc q ks) t
  shows_declared stands tags texts pending addressed there = record {
    stands = stands;
    texts = ap (map text_of) ext.literals ∙ h.texts ∙ sym texts;
    used_objects = objects_used;
    used_functions = functions_used;
    addressed = addressed;
    fillings = objects_filled;
    definitions = functions_defined;
    waiting = h.waiting ∙ sym pending;
    closed = closed_declared tags there;
  }

-- ---- a name is declared

shows_named : (w : Work) (sc : Scopes) (q : Typed) (s t : State) → IsWhole w.nodes → Extends w.nodes.p q →
    sc.file.now ≡ w.nodes.scopes.file.now → Shows w s → Stands sc q t → Enters s t →
    Shows (with_declared w sc q w.addressed) t
shows_named w sc q s t whole ext fl h stands e =
    let locals : length s.locals ≤ length t.locals =
    longer (λ (v : LocalState). v.addressed) false s.locals t.locals e.locals in
    shows_declared w sc q w.addressed s t whole ext fl h e.statics e.routines stands e.tags e.texts e.pending
    (λ k v g.
    ⊎_elim
    (λ a. a.2 ∙ h.addressed k a.0 a.1)
    (λ b. b.1 ∙ sym (ap (λ n. is_among n w.addressed.items) b.0
    ∙ not_among (length s.locals) w.addressed.items h.closed.addressed))
    (known (λ (v : LocalState). v.addressed) false s.locals t.locals k v e.locals g))
    (λ k j g. let l : j < length s.locals = h.closed.addressed k j g in omega arith)

named_kind : (k : DeclKind) (file : List ℕ) (before : Scopes) (p : Typed) (after : Scopes) (q : Typed) (d : Decl)
    (r : Result Entry Refusal) → k ≡ kinds.Object → DeclaresKind k file before p after q d r →
    types.Answers before p after q (declares_named (storage_of d.storage) (name_of file d) (formed_of p d) d.defines)
    (IsDeclared q) r
named_kind k file before p after q d r e h = subst (λ (j : DeclKind). DeclaresKind j file before p after q d r) e h

named_done : (w : Work) (sc : Scopes) (q : Typed) (d : Decl) (x : Entry) → IsWhole w.nodes → Extends w.nodes.p q →
    sc.file.now ≡ w.nodes.scopes.file.now →
    Does w.nodes.scopes w.nodes.p sc q (declares_named (storage_of d.storage) (name_of w.nodes.scopes.file.now d)
    (formed_of w.nodes.p d) d.defines) (IsDeclared q x) →
    Done freely w (with_declared w sc q w.addressed) (declares w d) (Unit {0})
    (IsEntry (with_declared w sc q w.addressed) x)
named_done w sc q d x whole ext fl does = record {
  whole = whole_declared w sc q whole ext fl;
  grows = keeps_declared w sc q w.addressed whole ext fl;
  there = tt;
  gives = λ s h.
      let st = storage_of d.storage in
      let f : Formed = formed_of w.nodes.p d in
      let g = does s h.stands in
      let is : declares w d s ≡ Ok (g.value, g.state) =
      subst (λ (file : List ℕ). declares_named st (name_of file d) f d.defines s ≡ Ok (g.value, g.state))
      h.closed.file g.is in
      record {
        value = g.value;
        state = g.state;
        is = is;
        stays = tt;
        shows = shows_named w sc q s g.state whole ext fl h g.stands
            (named_leaves st (name_of w.file.now d) f d.defines s g.value g.state is);
        fits = g.fits;
      };
}

-- the work on which a name is declared answers as the scopes and the program do
pub named_answers : (w : Work) (sc : Scopes) (q : Typed) (d : Decl) (r : Result Entry Refusal) → d.what ≡ kinds.Object →
    IsWhole w.nodes → d.of < type_count w.nodes → Extends w.nodes.p q → sc.file.now ≡ w.nodes.scopes.file.now →
    Declares w.nodes.scopes.file.now w.nodes.scopes w.nodes.p sc q d r →
    Answers freely w (with_declared w sc q w.addressed) (declares w d) EntryThere IsEntry r
named_answers w sc q d r e whole l ext fl a =
    by_result r (named_kind d.what w.nodes.scopes.file.now w.nodes.scopes w.nodes.p sc q d r e (a l))
  where
    by_result : (r : Result Entry Refusal) →
        types.Answers w.nodes.scopes w.nodes.p sc q (declares_named (storage_of d.storage)
        (name_of w.nodes.scopes.file.now d) (formed_of w.nodes.p d) d.defines) (IsDeclared q) r →
        Answers freely w (with_declared w sc q w.addressed) (declares w d) EntryThere IsEntry r
    by_result (Ok x) g = named_done w sc q d x whole ext fl g
    by_result (Err (Code code place)) g = λ s h.
        subst (λ (file : List ℕ). declares_named (storage_of d.storage) (name_of file d) (formed_of w.nodes.p d)
        d.defines s ≡ Err (record { code = code; place = place })) h.closed.file (g.refused s h.stands)
    by_result (Err NoMemory) g = tt

-- ---- a definition is begun

pub definition_done : (w : Work) (sc : Scopes) (q : Typed) (ks : Vec ℕ) (d : Decl) (k : ℕ) → IsWhole w.nodes →
    Extends w.nodes.p q → sc.file.now ≡ w.nodes.scopes.file.now → ks.items ≡ [] →
    Does w.nodes.scopes w.nodes.p sc q (declares_definition (storage_of d.storage)
    (name_of w.nodes.scopes.file.now d) (formed_of w.nodes.p d)) (IsNumber k) →
    Done freely w (with_declared w sc q ks) (begins w d) (Unit {0}) (IsFunction (with_declared w sc q ks) k)
definition_done w sc q ks d k whole ext fl none does = record {
  whole = whole_declared w sc q whole ext fl;
  grows = keeps_declared w sc q ks whole ext fl;
  there = tt;
  gives = λ s h.
      let st = storage_of d.storage in
      let f : Formed = formed_of w.nodes.p d in
      let g = does s h.stands in
      let is : begins w d s ≡ Ok (g.value, g.state) =
      subst (λ (file : List ℕ). declares_definition st (name_of file d) f s ≡ Ok (g.value, g.state))
      h.closed.file g.is in
      let e = definition_leaves st (name_of w.file.now d) f s g.value g.state is in
      record {
        value = g.value;
        state = g.state;
        is = is;
        stays = tt;
        shows = shows_declared w sc q ks s g.state whole ext fl h e.statics e.routines g.stands e.tags e.texts e.pending
            (λ j v i. no_local g.state.locals j v e.locals i) (λ j n i. no_number ks.items j n none i);
        fits = g.fits;
      };
}
  where
    no_local : {P : Type 0} (vs : List LocalState) (j : ℕ) (v : LocalState) → vs ≡ [] → slice_get vs j ≡ Some v → P
    no_local vs j v e g = absurd (gone vs j v e g)
      where
        gone : (vs : List LocalState) (j : ℕ) (v : LocalState) → vs ≡ [] → slice_get vs j ≡ Some v → ⊥
        gone [] j v e g = cc
        gone (y ∷ ys) j v e g = cc

    no_number : {P : Type 0} (ns : List ℕ) (j n : ℕ) → ns ≡ [] → slice_get ns j ≡ Some n → P
    no_number [] j n e g = absurd cc
    no_number (y ∷ ys) j n e g = absurd cc

pub definition_failed : (w v : Work) (n : Nodes) (d : Decl) (r : Refusal) → d.of < type_count w.nodes →
    BeginsIn w.nodes n d (Err r) → Answers freely w v (begins w d) FunctionThere IsFunction (Err r)
definition_failed w v n d (Code code place) l a = λ s h.
    subst (λ (file : List ℕ). declares_definition (storage_of d.storage) (name_of file d) (formed_of w.nodes.p d) s
    ≡ Err (record { code = code; place = place })) h.closed.file ((a l).refused s h.stands)
definition_failed w v n d NoMemory l a = tt
