-- A function is defined: it is declared, its parameters are opened, and its body is typed.
use Rattle.std.proofs.Common.{◌≡◌, ℕ, Bool, true, false, List, length, map, Option, Some, None, Result, Ok, Err, refl}
use Rattle.std.proofs.Common.{sym, ap, subst, ◌∙◌, arith}
use Rattle.std.specs.Prelude.{not, ◌||◌, reverse, slice_get, All}
use Rattle.std.proofs.lemmas.Bool.{false≢true}
use Rattle.std.proofs.lemmas.List.{length-map}
use Rattle.std.specs.Option.{is_some}
use Rattle.ck_base.specs.declared.positions.Pos.{Pos}
use Rattle.ck_base.specs.declared.refusal.Refusal.{Refusal}
use Rattle.ck_base.specs.declared.refusal.Refusal.TheVariants.{Code, NoMemory}
use Rattle.ck_base.specs.Tokens.{Lexeme}
use Rattle.c_tree.specs.Syntax.{Syn, first_token}
use Rattle.c_tree.specs.Types.{Ty, is_function}
use Rattle.c_tree.specs.Readings as meant
use Rattle.c_tree.specs.Readings.{Reading, Storage}
use Rattle.c_tree.specs.Scopes.{State, Fault, Doing, continued, look, need, find_in, innermost, ◌>>=◌, ◌>>◌}
use Rattle.c_tree.specs.Declarators as meant_types
use Rattle.c_tree.specs.Declarators.{formed, judge}
use Rattle.c_tree.specs.Declarations.{definition_agrees, linked_routine}
use Rattle.c_tree.specs.Expressions.{routine_type}
use Rattle.c_tree.specs.Programs.{reading, body_context, own_prototype, define_named, is_there, is_typedef}
use Rattle.c_tree.specs.Programs.{gives_complete, first_incomplete, refused_at}
use Rattle.typing_laws.proofs.Declared.{checked}
use Rattle.typing_laws.proofs.Steps.{first_then}
use Rattle.c_types.specs.Declares.{declares_definition, storage_of, name_of, formed_of}
use Rattle.c_types.specs.declared.entries.Decl.{Decl}
use Rattle.c_types.specs.declared.entries.DeclKind.TheVariants as kinds
use Rattle.c_types.proofs.Before.{of_own, defines_body, definition_is}
use Rattle.c_expressions.specs.Nodes.{type_in}
use Rattle.c_elaborator.specs.declared.work.Name.{Name}
use Rattle.c_elaborator.specs.declared.work.Work.{Work}
use Rattle.c_elaborator.specs.Work.{Shows}
use Rattle.c_elaborator.specs.Answers.{Keeps, freely, quietly, Given, Done, Answers, NothingThere, IsNothing}
use Rattle.c_elaborator.specs.Parts.{token_of}
use Rattle.c_elaborator.proofs.Sequencing.{keeps_then}
use Rattle.c_declarators.specs.declared.parts.Specified.{Specified}
use Rattle.c_declarators.specs.declared.parts.Formed.{Formed}
use Rattle.c_declarators.specs.declared.parts.Prototype.{Prototype}
use Rattle.c_declarators.specs.declared.parts.Wrap.{Wrap}
use Rattle.c_declarators.specs.Forming.{formed_in, ParamIsThere}
use Rattle.c_declarators.specs.Steps.{forms}
use Rattle.c_declarators.specs.Parts.{IsSpecified, FormedThere, IsFormed, in_any, IsPrototype, AreWraps, param_in}
use Rattle.c_declarators.specs.Parts.{shown_in}
use Rattle.c_elaborator.specs.Shown.{AnswersFor}
use Rattle.c_elaborator.specs.declared.items.Context.{Context}
use Rattle.c_elaborator.specs.Items.{context_in}
use Rattle.c_statements.specs.Declaring.{begins, FunctionThere, IsFunction}
use Rattle.c_statements.proofs.Leaving.{definition_leaves}
use Rattle.c_elab.specs.Functions.{first_prototype, opened, Opens, finishes, types_body, defines}
use Rattle.c_elab.proofs.Own.{Owned, owned, prototype_kept}

-- ---- steps over values that are seen in a state

-- a state and a value that a step has reached
pub record Reached {Q B : Type 0} (v : Work) (Fits : State → Q → Type 0) (h : Q → Doing B)
    (r : Result (B × State) Fault) : Type 0 where
  pub state : State
  pub value : Q
  pub shows : Shows v state
  pub fits : Fits state value
  pub is : r ≡ h value state

pub goes_for : {E Q B Z : Type 0} (u v w : Work) (Fits : State → E → Type 0) (g : E → Doing B)
    (Then : State → Q → Type 0) (h : Q → Doing B) (There : Work → Z → Type 0) (Is : Work → Z → State → B → Type 0)
    (r : Result Z Refusal) → Keeps u v →
    ((s : State) (e : E) → Shows u s → Fits s e → Reached v Then h (g e s)) → AnswersFor freely v w Then h There Is r →
    AnswersFor freely u w Fits g There Is r
goes_for u v w Fits g Then h There Is (Ok z) k f a = record {
  whole = a.whole;
  grows = keeps_then u v w k a.grows;
  there = a.there;
  gives = λ s t e i. let m = f s e t i in let n = a.gives m.state m.shows m.value m.fits in
      record { value = n.value; state = n.state; is = m.is ∙ n.is; stays = tt; shows = n.shows; fits = n.fits };
}
goes_for u v w Fits g Then h There Is (Err (Code code place)) k f a =
    λ s t e i. let m = f s e t i in m.is ∙ a m.state m.shows m.value m.fits
goes_for u v w Fits g Then h There Is (Err NoMemory) k f a = tt

-- the same where the next step does not hang on the value
pub goes_on_for : {E B Z : Type 0} (u v w : Work) (Fits : State → E → Type 0) (g : E → Doing B) (h : Doing B)
    (There : Work → Z → Type 0) (Is : Work → Z → State → B → Type 0) (r : Result Z Refusal) → Keeps u v →
    ((s : State) (e : E) → Shows u s → Fits s e → (t : State) × Shows v t × (g e s ≡ h t)) →
    Answers freely v w h There Is r → AnswersFor freely u w Fits g There Is r
goes_on_for u v w Fits g h There Is (Ok z) k f a = record {
  whole = a.whole;
  grows = keeps_then u v w k a.grows;
  there = a.there;
  gives = λ s t e i. let m = f s e t i in let n = a.gives m.0 m.1 in
      record { value = n.value; state = n.state; is = m.2 ∙ n.is; stays = tt; shows = n.shows; fits = n.fits };
}
goes_on_for u v w Fits g h There Is (Err (Code code place)) k f a = λ s t e i. let m = f s e t i in m.2 ∙ a m.0 m.1
goes_on_for u v w Fits g h There Is (Err NoMemory) k f a = tt

-- a step is answered for fewer values too
pub for_fewer : {E B Z : Type 0} (u v : Work) (Fits Fewer : State → E → Type 0) (g : E → Doing B)
    (There : Work → Z → Type 0) (Is : Work → Z → State → B → Type 0) (r : Result Z Refusal) →
    ((s : State) (e : E) → Fewer s e → Fits s e) →
    AnswersFor freely u v Fits g There Is r → AnswersFor freely u v Fewer g There Is r
for_fewer u v Fits Fewer g There Is (Ok z) f a =
    record { whole = a.whole; grows = a.grows; there = a.there; gives = λ s t e i. a.gives s t e (f s e i) }
for_fewer u v Fits Fewer g There Is (Err (Code code place)) f a = λ s t e i. a s t e (f s e i)
for_fewer u v Fits Fewer g There Is (Err NoMemory) f a = tt

-- ---- the body

-- what is done where it is known whether a parameter is not complete
pub defines_at : (u : Work) (p : Prototype) (k : ℕ) (z : Syn) (place : Option Pos) (s : State) (q : meant.Prototype) →
    place ≡ first_incomplete s.tags (map (param_in u) p.params.items) → IsPrototype (shown_in u s) u p q →
    defines k q z s ≡ (refused_at 132 place
    >> types_body k (length q.params) (body_context (routine_type (slice_get s.routines k))) z) (opened q s)
defines_at u p k z place s q e i =
    ap (λ o. (refused_at 132 o
    >> types_body k (length q.params) (body_context (routine_type (slice_get s.routines k))) z) (opened q s))
    (ap (first_incomplete s.tags) i.params ∙ sym e)

pub body_defined : (u v w : Work) (p : Prototype) (k count : ℕ) (c : Context) (z : Syn)
    (r : Result (Unit {0}) Refusal) → All (ParamIsThere u.nodes) p.params.items →
    ((s : State) → Shows u s → None ≡ first_incomplete s.tags (map (param_in u) p.params.items)) →
    ((s : State) → Shows u s → context_in u c ≡ body_context (routine_type (slice_get s.routines k))) →
    context_in v c ≡ context_in u c → count ≡ length p.params.items → Opens u v p →
    Answers freely v w (types_body k count (context_in v c) z) NothingThere IsNothing r →
    AnswersFor freely u w (λ s q. IsPrototype (shown_in u s) u p q) (λ q. defines k q z) NothingThere IsNothing r
body_defined u v w p k count c z r there complete look same number o a =
    goes_on_for u v w (λ s q. IsPrototype (shown_in u s) u p q) (λ q. defines k q z)
    (types_body k count (context_in v c) z) NothingThere IsNothing r o.keeps
    (λ s q h i.
    let step : meant.Context → ℕ → Result (Unit × State) Fault = λ d n. types_body k n d z (opened q s) in (
      opened q s,
      o.shows s q there h i,
      defines_at u p k z None s q (complete s h) i ∙ ap (λ d. step d (length q.params)) (sym (same ∙ look s h))
          ∙ ap (step (context_in v c)) (ap length i.params ∙ length-map p.params.items _ ∙ sym number),
    ))
    a

-- a parameter refuses before the body and what comes after it
refused_before : {A B : Type 0} (o : Option Pos) (d : Doing A) (f : A → Doing B) (s : State) →
    (refused_at 132 o >> d >>= f) s ≡ (refused_at 132 o >> (d >>= f)) s
refused_before None d f s = refl
refused_before (Some p) d f s = refl

prototype_defined : (k : ℕ) (q : meant.Prototype) (z : Syn) (s : State) →
    defines_body k (Some q) z (reading z) s ≡ defines k q z s
prototype_defined k q z s =
    refused_before (first_incomplete s.tags q.params)
    ((reading z).body (body_context (routine_type (slice_get s.routines k))))
    (λ i. finishes k (length q.params) i (first_token z).pos) (opened q s)

-- ---- the function is declared

abbrev pub defined_decl : Specified → Name → Formed → (complete own : Bool) → Decl
defined_decl s name f complete own =
    record {
      name = name.span;
      pos = name.pos;
      of = f.of;
      faults = record f.faults { lacks = f.faults.lacks || not complete; misfits = f.faults.misfits || not own };
      what =
          kinds.Fun;
      storage = s.storage;
      defines = true;
    }

there_owned : (R : _) (w : Work) (o : Option Prototype) (q : Option meant.Prototype) → Owned R w o q →
    is_there q ≡ is_some o
there_owned R w None q h = ap is_there h
there_owned R w (Some p) q h = ap is_there h.1

-- what a definition is, where its type is formed
begun_is : (u v : Work) (s : Specified) (y : meant.Specified) (e : meant.Derived) (name : Name) (f : Formed)
    (complete : Bool) (own : Option Prototype) (z : Syn) (r : Reading) (R : _) (st : State) → Keeps u v →
    IsSpecified u s y → e.name ≡ Some (token_of u name) →
    formed st (type_in u.nodes s.of) e.wraps ≡ formed_in v.nodes f →
    complete ≡ gives_complete st (type_in v.nodes f.of) → Owned R u own (own_prototype e.wraps) →
    define_named y e e.name z r st ≡ (begins v (defined_decl s name f complete (is_some own))
    >>= λ k. defines_body k (own_prototype e.wraps) z r) st
begun_is u v s y e name f complete own z r R st k h n g gc o =
    let t = token_of u name in
    let d : Storage → meant_types.Formed → Lexeme → Result (Unit × State) Fault =
    λ a m x. (declares_definition a x m >>= λ j. defines_body j (own_prototype e.wraps) z r) st in
    let m : meant_types.Formed = formed_in v.nodes f in
    ap (λ o. define_named y e o z r st) n
    ∙ definition_is y e t z r st
    ∙ ap (λ a. d a (of_own (formed st y.of e.wraps) (gives_complete st (formed st y.of e.wraps).of)
    (own_prototype e.wraps)) t) h.storage
    ∙ ap (λ (of : Ty). d (storage_of s.storage)
    (of_own (formed st of e.wraps) (gives_complete st (formed st of e.wraps).of) (own_prototype e.wraps)) t) h.of
    ∙ ap (λ (x : meant_types.Formed). d (storage_of s.storage)
    (of_own x (gives_complete st x.of) (own_prototype e.wraps)) t) g
    ∙ ap (λ (c : Bool). d (storage_of s.storage) (of_own m c (own_prototype e.wraps)) t) (sym gc)
    ∙ ap (λ (b : Bool). d (storage_of s.storage)
    (record m { lacks = m.lacks || not complete; misfits = m.misfits || not b }) t)
    (there_owned R u own (own_prototype e.wraps) o)
    ∙ ap (λ (file : List ℕ). d (storage_of s.storage)
    (record m { lacks = m.lacks || not complete; misfits = m.misfits || not (is_some own) })
    (name_of file (defined_decl s name f complete (is_some own)))) (sym k.file)

-- the type is formed in the same state
pub formed_here : (u v : Work) (of : Ty) (ws : List meant.Wrap) (f : Formed) (s : State) → Shows u s →
    Done quietly u v (forms of ws) (FormedThere v f) (in_any IsFormed v f) →
    (formed s of ws ≡ formed_in v.nodes f) × Shows v s
formed_here u v of ws f s h a =
    let m = a.gives s h in
    let value : formed s of ws ≡ m.value = ap (value_of (formed s of ws)) m.is in
    let state : s ≡ m.state = ap (state_of s) m.is in
    (value ∙ m.fits, subst (Shows v) (sym state) m.shows)
  where
    state_of : State → Result (meant_types.Formed × State) Fault → State
    state_of x (Ok y) = y.1
    state_of x (Err e) = x

    value_of : meant_types.Formed → Result (meant_types.Formed × State) Fault → meant_types.Formed
    value_of x (Ok y) = y.0
    value_of x (Err e) = x

-- a definition whose type breaks a rule is never begun
pub not_begun : (v : Work) (d : Decl) (s : State) {w : Work} {Is : State → ℕ → Type 0} → d.faults.misfits ≡ true →
    Given freely w s (begins v d s) Is → ⊥
not_begun v d s e m =
    let f = formed_of v.nodes.p d in
    let t = name_of v.file.now d in
    let o = find_in (innermost s.scopes).names t.text in
    let misfits : Bool = is_typedef (storage_of d.storage) || not (is_function f.of) in
    let a = first_then ((need (definition_agrees s o t.text f.of) 131 t.pos >> judge f false misfits t.pos
    >> linked_routine t f.of o) s) _ (m.value, m.state) m.is in
    let j = checked (definition_agrees s o t.text f.of) t.pos f false misfits (linked_routine t f.of o) s a.0 a.1 in
    false≢true (sym j.1.passes.misfits ∙ e)

-- no type is refused where it is formed
pub never_unformed : {B : Type 0} (u v w : Work) (of : Ty) (Fits : State → meant.Derived → Type 0)
    (g : meant.Derived → Doing B) (There : Work → Unit {0} → Type 0) (Is : Work → Unit {0} → State → B → Type 0)
    (q : Refusal) →
    ((e : meant.Derived) (s : State) → Fits s e →
    Answers quietly u v (forms of e.wraps) FormedThere (in_any IsFormed) (Err q)) →
    AnswersFor freely u w Fits g There Is (Err q)
never_unformed u v w of Fits g There Is (Code code place) a =
    λ s h e i. absurd (no_error (formed s of e.wraps) s (a e s i s h))
  where
    no_error : (x : meant_types.Formed) (s : State) →
        (let r : Result (meant_types.Formed × State) Fault = Ok (x, s) in r)
        ≡ Err (record { code = code; place = place }) → ⊥
    no_error x s e = cc
never_unformed u v w of Fits g There Is NoMemory a = tt

module _ (u v : Work) (s : Specified) (y : meant.Specified) (z : Syn) (name : Name) (f : Formed) (wraps : List Wrap)
    (complete : Bool) (gives : (st : State) → Shows v st → complete ≡ gives_complete st (type_in v.nodes f.of)) where
  -- what is known of a declarator in a state
  abbrev Seen : State → meant.Derived → Type 0
  Seen st e = (e.name ≡ Some (token_of u name)) × AreWraps (shown_in u st) u (reverse wraps) e.wraps

  -- the definition cannot be begun
  pub never_begun : (w x : Work) (Fits : State → meant.Derived → Type 0) (d : Decl) (q : Refusal) → IsSpecified u s y →
      Keeps u v → ((st : State) (e : meant.Derived) → Fits st e → Seen st e) →
      ((st : State) (e : meant.Derived) → Fits st e →
      Done quietly u v (forms (type_in u.nodes s.of) e.wraps) (FormedThere v f) (in_any IsFormed v f)) →
      d ≡ defined_decl s name f complete (is_some (first_prototype wraps)) →
      Answers freely v w (begins v d) FunctionThere IsFunction (Err q) →
      AnswersFor freely u x Fits (λ e. define_named y e e.name z (reading z)) NothingThere IsNothing (Err q)
  never_begun w x Fits d (Code code place) h k seen form same a = λ st t e i.
      let n = seen st e i in
      let g = formed_here u v (type_in u.nodes s.of) e.wraps f st t (form st e i) in
      let o = owned (shown_in u st) u wraps e.wraps n.1 in
      begun_is u v s y e name f complete (first_prototype wraps) z (reading z) (shown_in u st) st k h n.0 g.0
      (gives st g.1) o
      ∙ ap (λ r. continued r (λ j. defines_body j (own_prototype e.wraps) z (reading z)))
      (ap (λ (z : Decl). begins v z st) (sym same) ∙ a st g.1)
  never_begun w x Fits d NoMemory h k seen form same a = tt

  -- the definition is begun, and the rest is the body
  pub definition_begun : (w x : Work) (Fits : State → meant.Derived → Type 0) (d : Decl) (j : ℕ) (p : Prototype)
      (r : Result (Unit {0}) Refusal) → IsSpecified u s y → Keeps u v → first_prototype wraps ≡ Some p →
      All (ParamIsThere u.nodes) p.params.items →
      ((st : State) (e : meant.Derived) → Fits st e → Seen st e) →
      ((st : State) (e : meant.Derived) → Fits st e →
      Done quietly u v (forms (type_in u.nodes s.of) e.wraps) (FormedThere v f) (in_any IsFormed v f)) →
      d ≡ defined_decl s name f complete (is_some (first_prototype wraps)) →
      Done freely v w (begins v d) (Unit {0}) (IsFunction w j) →
      AnswersFor freely w x (λ st q. IsPrototype (shown_in w st) w p q) (λ q. defines j q z) NothingThere IsNothing r →
      AnswersFor freely u x Fits (λ e. define_named y e e.name z (reading z)) NothingThere IsNothing r
  definition_begun w x Fits d j p r h k own there seen form same a b =
      goes_for u w x Fits (λ e. define_named y e e.name z (reading z)) (λ st q. IsPrototype (shown_in w st) w p q)
      (λ q. defines j q z) NothingThere IsNothing r (keeps_then u v w k a.grows)
      (λ st e t i.
      let n = seen st e i in
      let g = formed_here u v (type_in u.nodes s.of) e.wraps f st t (form st e i) in
      let o = owned (shown_in u st) u wraps e.wraps n.1 in
      let q = subst (λ (c : Option Prototype). Owned (shown_in u st) u c (own_prototype e.wraps)) own o in
      let m = a.gives st g.1 in
      let l = definition_leaves (storage_of d.storage) (name_of v.file.now d)
      (formed_of v.nodes.p d) st m.value m.state m.is in
      let tags : length st.tags ≡ length m.state.tags = ap length (sym l.tags) in
      record {
        state = m.state;
        value = q.0;
        shows = m.shows;
        fits = prototype_kept u w st m.state p q.0 (keeps_then u v w k a.grows) (omega arith) there q.2;
        is = begun_is u v s y e name f complete (first_prototype wraps) z (reading z) (shown_in u st) st k h n.0 g.0
            (gives st g.1) o
            ∙ ap (λ (y : Decl). continued (begins v y st) (λ j. defines_body j (own_prototype e.wraps) z (reading z)))
            (sym same)
            ∙ ap (λ c. continued c (λ j. defines_body j (own_prototype e.wraps) z (reading z))) m.is
            ∙ ap (λ i. defines_body i (own_prototype e.wraps) z (reading z) m.state) m.fits
            ∙ ap (λ c. defines_body j c z (reading z) m.state) q.1
            ∙ prototype_defined j q.0 z m.state;
      })
      b
