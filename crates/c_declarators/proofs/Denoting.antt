-- Typedef names and enumeration constants.
use Rattle.std.proofs.Common.{◌≡◌, ℕ, true, false, List, Option, Some, None, Result, Ok, Err, refl, sym, ap, subst, ◌∙◌}
use Rattle.std.specs.Prelude.{ℤ, pos, ◌+ℤ◌, option_map}
use Rattle.ck_base.specs.declared.positions.Pos.{Pos}
use Rattle.ck_base.specs.Tokens.{Lexeme}
use Rattle.c_tree.specs.declared.typed.Typed.{Typed}
use Rattle.c_tree.specs.Types.{Ty}
use Rattle.c_tree.specs.Views.{types_of}
use Rattle.c_tree.specs.Scopes as meant
use Rattle.c_tree.specs.Scopes.{State, some_or, bind_name}
use Rattle.c_tree.specs.Declarators.{alias_type, is_new, in_int, enumerate}
use Rattle.c_types.specs.declared.entries.Entity.{Entity}
use Rattle.c_types.specs.declared.entries.Entity.TheVariants.{Local, Static, Routine, Alias, Enumerator, Library}
use Rattle.c_types.specs.declared.scopes.Scopes.{Scopes}
use Rattle.c_types.specs.Calls.{Given}
use Rattle.c_types.specs.Declares.{declares_constant}
use Rattle.c_interner.specs.Numbers.{type_named}
use Rattle.c_types.proofs.Looking.{type_is}
use Rattle.c_types.specs.Stands.{Stands, Seen, alias, named, entity_kept, entity_seen}
use Rattle.c_declarators.specs.Naming.{alias_in, IsAlias}

-- ---- typedef names

-- the type that a name stands for
abbrev pub alias_meant : Option meant.Entity → Option Ty
alias_meant None = None
alias_meant (Some (meant.Alias t)) = Some t
alias_meant (Some e) = None

alias_seen : Seen → Option (Option Ty)
alias_seen (alias t) = Some t
alias_seen s = None

alias-kept : (ts : List Ty) (e : Entity) → alias_seen (entity_kept ts e) ≡ option_map (named ts) (alias_in e)
unfolding alias_seen
alias-kept ts (Local k t) = refl
alias-kept ts (Static k) = refl
alias-kept ts (Routine k) = refl
alias-kept ts (Alias t) = refl
alias-kept ts (Enumerator z) = refl
alias-kept ts (Library k of) = refl

alias-seen : (e : meant.Entity) → alias_seen (entity_seen e) ≡ option_map (λ t. Some t) (alias_meant (Some e))
unfolding alias_seen
alias-seen (meant.Local k t) = refl
alias-seen (meant.Static k) = refl
alias-seen (meant.Routine k) = refl
alias-seen (meant.Alias t) = refl
alias-seen (meant.Enumerator z) = refl
alias-seen (meant.Library k of) = refl

some_is : {A : Type 0} (a b : A) → Some a ≡ Some b → a ≡ b
some_is a b e = cc

found : (ts : List Ty) (o : Option Entity) (e : Option meant.Entity) (r : Option ℕ) →
    option_map (entity_kept ts) o ≡ option_map entity_seen e → IsAlias o r →
    option_map (named ts) r ≡ option_map (λ t. Some t) (alias_meant e)
found ts None None r h i = ap (option_map (named ts)) i
found ts None (Some y) r h i = absurd cc
found ts (Some x) None r h i = absurd cc
found ts (Some x) (Some y) r h i =
    ap (option_map (named ts)) i ∙ sym (alias-kept ts x) ∙ ap alias_seen (some_is (entity_kept ts x) (entity_seen y) h)
    ∙ alias-seen y

alias_type_is : (e : Option meant.Entity) (p : Pos) (s : State) → alias_type e p s ≡ some_or (alias_meant e) 133 p s
alias_type_is None p s = refl
alias_type_is (Some (meant.Local k t)) p s = refl
alias_type_is (Some (meant.Static k)) p s = refl
alias_type_is (Some (meant.Routine k)) p s = refl
alias_type_is (Some (meant.Alias t)) p s = refl
alias_type_is (Some (meant.Enumerator z)) p s = refl
alias_type_is (Some (meant.Library k of)) p s = refl

none_meant : (ts : List Ty) (o : Option Ty) → option_map (named ts) None ≡ option_map (λ t. Some t) o → o ≡ None
none_meant ts None e = refl
none_meant ts (Some t) e = absurd cc

some_meant : (p : Typed) (k : ℕ) (o : Option Ty) →
    option_map (named (types_of p.types)) (Some k) ≡ option_map (λ t. Some t) o → o ≡ Some (type_named p k)
some_meant p k None e = absurd cc
some_meant p k (Some u) e =
    let f : named (types_of p.types) k ≡ Some u = cc in ap (λ t. Some t) (sym (type_is p k u f))

pub no_alias : (ts : List Ty) (o : Option Entity) (e : Option meant.Entity) (p : Pos) (s : State) →
    option_map (entity_kept ts) o ≡ option_map entity_seen e → IsAlias o None →
    alias_type e p s ≡ Err (record { code = 133; place = p })
no_alias ts o e p s h i =
    alias_type_is e p s ∙ ap (λ t. some_or t 133 p s) (none_meant ts (alias_meant e) (found ts o e None h i))

pub alias_there : (q : Typed) (o : Option Entity) (e : Option meant.Entity) (k : ℕ) (p : Pos) (s : State) →
    option_map (entity_kept (types_of q.types)) o ≡ option_map entity_seen e → IsAlias o (Some k) →
    alias_type e p s ≡ Ok (type_named q k, s)
alias_there q o e k p s h i =
    alias_type_is e p s
    ∙ ap (λ u. some_or u 133 p s) (some_meant q k (alias_meant e) (found (types_of q.types) o e (Some k) h i))

-- ---- enumeration constants

state_in : {A : Type 0} → Result (A × State) meant.Fault → State → State
state_in (Ok x) d = x.1
state_in (Err e) d = d

pair_state : {A : Type 0} (a b : A) (v w : State) (x : Result (A × State) meant.Fault) → x ≡ Ok (a, v) → x ≡ Ok (b, w) →
    v ≡ w
unfolding state_in
pair_state a b v w x e f = ap (λ r. state_in r v) (sym e ∙ f)

-- a new constant is declared
constant_steps : (t : Lexeme) (z : ℤ) (s : State) → is_new s t.text ≡ true →
    declares_constant t z s ≡ Ok (meant.Enumerator z, bind_name t.text (meant.Enumerator z) s)
constant_steps t z s b = rw b refl

-- what the scopes stand for once the constant is declared
pub constant_stands : (sc : Scopes) (p : Typed) (t : Lexeme) (z : ℤ) (s : State)
    (F : State → meant.Entity → Type 0) → is_new s t.text ≡ true →
    Given sc p (declares_constant t z s) F → Stands sc p (bind_name t.text (meant.Enumerator z) s)
constant_stands sc p t z s F b g =
    let u : State = bind_name t.text (meant.Enumerator z) s in
    let e = constant_steps t z s b in
    subst (λ (v : State). Stands sc p v) (sym
    (pair_state (meant.Enumerator z) g.value u g.state (declares_constant t z s) e g.is)) g.stands

pub constant_not_refused : (t : Lexeme) (z : ℤ) (s : State) (f : meant.Fault) → is_new s t.text ≡ true →
    declares_constant t z s ≡ Err f → ⊥
constant_not_refused t z s f b g =
    let u : State = bind_name t.text (meant.Enumerator z) s in
    let e = constant_steps t z s b in
    absurd cc

pub enumerated : (t : Lexeme) (z : ℤ) (p : Pos) (s : State) → is_new s t.text ≡ true → in_int z ≡ true →
    enumerate t z p s ≡ Ok (z +ℤ pos 1, bind_name t.text (meant.Enumerator z) s)
enumerated t z p s b i = rw (b, i) refl

pub named_again : (t : Lexeme) (z : ℤ) (p : Pos) (s : State) → is_new s t.text ≡ false →
    enumerate t z p s ≡ Err (record { code = 131; place = t.pos })
named_again t z p s b = rw b refl
