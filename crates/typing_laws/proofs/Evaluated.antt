-- Expressions: each reading of the syntax as an expression gives what fits (C11 6.5).
use Rattle.std.proofs.Common.{◌≡◌, ℕ, Bool, true, false, List, [], ◌∷◌, Option, Some, None, Ok, refl, arith}
use Rattle.std.specs.Prelude.{slice_get}
use Rattle.ck_base.specs.declared.positions.Pos.{Pos}
use Rattle.ck_base.specs.Tokens.{Lexeme}
use Rattle.ck_int.specs.declared.kinds.IntOp.{IntOp}
use Rattle.c_tree.specs.declared.syntax.NodeKind.{NodeKind}
use Rattle.c_tree.specs.declared.syntax.NodeKind.TheVariants as Kinds
use Rattle.c_tree.specs.declared.syntax.PrefixOperator.{PrefixOperator}
use Rattle.c_tree.specs.declared.syntax.PrefixOperator.TheVariants as prefixes
use Rattle.c_tree.specs.declared.syntax.Selection.{Selection}
use Rattle.c_tree.specs.declared.syntax.Selection.TheVariants.{Direct, Indirect}
use Rattle.c_tree.specs.Syntax.{Syn, Syns, node, nil, more}
use Rattle.c_tree.specs.Types.{Ty}
use Rattle.c_tree.specs.Scopes.{Entity, Local, Static, Routine, Alias, Enumerator, TagState, State, Doing, give, change}
use Rattle.c_tree.specs.Scopes.{◌>>=◌, ◌>>◌}
use Rattle.c_tree.specs.Scopes as scopes
use Rattle.c_tree.specs.Conversions.{Operand, operand_type, value}
use Rattle.c_tree.specs.Readings.{Reading}
use Rattle.c_tree.specs.Expressions.{gives, address, assign, compound, index, infix_join, conditional, member}
use Rattle.c_tree.specs.Expressions.{member_behind, dereference, unary_on, stepped, cast, sized, call, library_call}
use Rattle.c_tree.specs.Expressions.{unevaluated, called_name, called_library, read_value, read_values, first_of}
use Rattle.c_tree.specs.Expressions.{called, prefixed, assignment, selected, expression_of}
use Rattle.c_tree.specs.Libraries.{services}
use Rattle.typing_laws.specs.Fitting.{KindFits}
use Rattle.typing_laws.proofs.Facts.{TypeOk, OperandOk, ValueOk, EntityOk, AllScopes, Refers, Inv, Grows, Kept}
use Rattle.typing_laws.proofs.Growing.{type_kept, operand_kept, value_kept, refers_self, grows_self, scopes_more}
use Rattle.typing_laws.proofs.Growing.{scopes_added}
use Rattle.typing_laws.proofs.Steps.{given, refused, first_then}
use Rattle.typing_laws.proofs.Converted.{Operands, Values, gave, value_ok}
use Rattle.typing_laws.proofs.Operators.{onward, unary_ok, infix_ok, conditional_ok, assign_ok, compound_ok, stepped_ok}
use Rattle.typing_laws.proofs.Places.{entity_kept, named_ok, number_ok, character_ok, text_ok, address_ok}
use Rattle.typing_laws.proofs.Places.{dereference_ok}
use Rattle.typing_laws.proofs.Places.{index_ok, cast_ok, sized_ok, member_ok, member_behind_ok}
use Rattle.typing_laws.proofs.Calls.{AllValues, call_ok, library_ok}

-- ---- what is not evaluated

entity_weaker : (m : Bool) (s : State) (e : Entity) → EntityOk m s e → EntityOk false s e
entity_weaker m s (Local k t) h = (h.0, tt)
entity_weaker m s (Static k) h = tt
entity_weaker m s (Routine k) h = tt
entity_weaker m s (Alias t) h = h
entity_weaker m s (Enumerator z) h = h
entity_weaker m s (scopes.Library k t) h = tt

-- without the numbers of names
pub weaker : (m : Bool) (s : State) → Inv m s → Inv false s
weaker m s i = record {
  tags = i.tags;
  names = scopes_more (EntityOk m s) (EntityOk false s) (entity_weaker m s) s.scopes i.names;
  statics =
      i.statics;
  routines = i.routines;
  locals = i.locals;
}

-- what stays behind it: tags and enumeration constants
abbrev restored : State → State → State
restored s r = record r { texts = s.texts; statics = s.statics; routines = s.routines; locals = s.locals }

restored_refers : (s r : State) → Refers s r → Refers s (restored s r)
restored_refers s r g = record {
  tags = g.tags;
  statics = (refers_self s).statics;
  routines = (refers_self s).routines;
  texts = λ k x q. q;
  locals = (refers_self s).locals;
}

pending_same : (s r : State) → Grows true s r → Rattle.typing_laws.proofs.Facts.Still s (restored s r)
pending_same s r g = record { locals = refl; statics = refl; routines = refl; pending = g.still.pending }

restored_grows : (s r : State) → Grows true s r → Grows true s (restored s r)
restored_grows s r g = record {
  refers = restored_refers s r g.refers;
  opened = g.opened;
  outer = g.outer;
  deep = g.deep;
  names = g.names;
  count = refl;
  still = pending_same s r g;
  statics = omega arith;
  routines = omega arith;
}

restored_inv : (m : Bool) (s r : State) → Inv m s → Inv false r → Grows true s r → Inv m (restored s r)
restored_inv m s r i j g =
    let q : State = restored s r in
    let h = restored_refers s r g.refers in
    record {
      tags = j.tags;
      names = scopes_added (EntityOk m q) (λ z w. w) s.scopes r.scopes g.outer g.deep g.names
          (scopes_more (EntityOk m s) (EntityOk m q)
          (entity_kept m s q h (omega arith) (omega arith)) s.scopes i.names);
      statics = λ k x e. type_kept s.tags r.tags g.refers.tags x.of (i.statics k x e);
      routines = λ k x e. let f = i.routines k x e in (type_kept s.tags r.tags g.refers.tags x.of f.0, f.1);
      locals = λ k x e. type_kept s.tags r.tags g.refers.tags x.of (i.locals k x e);
    }

pub unevaluated_ok : {A : Type 0} (m : Bool) (s : State) → Inv m s → (d : Doing A) (Q : List TagState → A → Type 0) →
    ((y : A × State) → d s ≡ Ok y → Kept false true s (λ r a. Q r.tags a) y) → (x : A × State) →
    unevaluated d s ≡ Ok x → Kept m true s (λ r a. Q r.tags a) x
unevaluated_ok m s i d Q f x e =
    let y = first_then (d s) (λ a r. Ok (a, restored s r)) x e in
    let k = f y.0 y.1 in
    given (Kept m true s (λ r a. Q r.tags a)) y.0.0 (restored s y.0.1) x y.2
    (record { inv = restored_inv m s y.0.1 i k.inv k.grown; grown = restored_grows s y.0.1 k.grown; post = k.post })

-- numbers of names behind a step that changes no more than an expression does
pub regained : (m : Bool) (s r : State) → Inv m s → Inv false r → Grows true s r → Inv m r
regained m s r i j g = record {
  tags = j.tags;
  names = scopes_added (EntityOk m r) (λ z w. w) s.scopes r.scopes g.outer g.deep g.names
      (scopes_more (EntityOk m s) (EntityOk m r) (entity_kept m s r g.refers g.statics g.routines) s.scopes i.names);
  statics = j.statics;
  routines = j.routines;
  locals = j.locals;
}

pub regain : {A : Type 0} (m : Bool) (s : State) (Q : State → A → Type 0) (x : A × State) → Inv m s →
    Kept false true s Q x → Kept m true s Q x
regain m s Q x i k = record { inv = regained m s x.1 i k.inv k.grown; grown = k.grown; post = k.post }

-- ---- the parts of an expression

pub record ReadsExpression (r : Reading) : Type 0 where
  pub operand : (m : Bool) (s : State) → Inv m s → (x : Operand × State) → r.operand s ≡ Ok x → Operands m s x
  pub type : (m alone : Bool) (s : State) → Inv m s → (x : Ty × State) → r.type alone s ≡ Ok x →
      Kept m true s (λ r t. TypeOk r.tags t) x

abbrev pub ReadAll : List Reading → Type 0
ReadAll [] = Unit {0}
ReadAll (r ∷ rs) = ReadsExpression r × ReadAll rs

module _ (m : Bool) where
  pub read_ok : (s : State) → Inv m s → (r : Reading) → ReadsExpression r → (x : Operand × State) →
      read_value r s ≡ Ok x → Values m s x
  read_ok s i r h x e =
      let f = first_then (r.operand s) value x e in
      let k = h.operand m s i f.0 f.1 in
      onward m true s f.0 x k (value_ok m f.0.1 k.inv f.0.0 k.post x f.2)

  read_all_ok : (rs : List Reading) (s : State) → Inv m s → ReadAll rs → (x : List Operand × State) →
      read_values rs s ≡ Ok x → Kept m true s (λ r xs. AllValues m r xs) x
  read_all_ok [] s i h x e =
      given (Kept m true s (λ r xs. AllValues m r xs)) [] s x e
      (record { inv = i; grown = grows_self true s; post = tt })
  read_all_ok (r ∷ rs) s i h x e =
      let f = first_then (read_value r s) (λ y. read_values rs >>= λ ys. give (y ∷ ys)) x e in
      let k = read_ok s i r h.0 f.0 f.1 in
      let g = first_then (read_values rs f.0.1) (λ ys. give (f.0.0 ∷ ys)) x f.2 in
      let l = read_all_ok rs f.0.1 k.inv h.1 g.0 g.1 in
      onward m true s f.0 x k (given (Kept m true f.0.1 (λ r xs. AllValues m r xs)) (f.0.0 ∷ g.0.0) g.0.1 x g.2
      (record {
        inv = l.inv;
        grown = l.grown;
        post = (value_kept m f.0.1 g.0.1 l.grown.refers f.0.0.is k.post, l.post);
      }))

  -- two operands that are read, and three
  two_read : (s : State) → Inv m s → (r q : Reading) → ReadsExpression r → ReadsExpression q →
      (d : Operand → Operand → Doing Operand) →
      ((a b : Operand) (t : State) → Inv m t → ValueOk m t a.is → ValueOk m t b.is → (x : Operand × State) →
      d a b t ≡ Ok x → Operands m t x) →
      (x : Operand × State) → (read_value r >>= λ a. read_value q >>= λ b. d a b) s ≡ Ok x → Operands m s x
  two_read s i r q h j d k x e =
      let f = first_then (read_value r s) (λ a. read_value q >>= λ b. d a b) x e in
      let l = read_ok s i r h f.0 f.1 in
      let g = first_then (read_value q f.0.1) (λ b. d f.0.0 b) x f.2 in
      let n = read_ok f.0.1 l.inv q j g.0 g.1 in
      onward m true s f.0 x l (onward m true f.0.1 g.0 x n
      (k f.0.0 g.0.0 g.0.1 n.inv (value_kept m f.0.1 g.0.1 n.grown.refers f.0.0.is l.post) n.post x g.2))

  one_read : (s : State) → Inv m s → (r : Reading) → ReadsExpression r → (d : Operand → Doing Operand) →
      ((a : Operand) (t : State) → Inv m t → ValueOk m t a.is → (x : Operand × State) → d a t ≡ Ok x → Operands m t x) →
      (x : Operand × State) → (read_value r >>= d) s ≡ Ok x → Operands m s x
  one_read s i r h d k x e =
      let f = first_then (read_value r s) d x e in
      let l = read_ok s i r h f.0 f.1 in
      onward m true s f.0 x l (k f.0.0 f.0.1 l.inv l.post x f.2)

  one_named : (s : State) → Inv m s → (r : Reading) → ReadsExpression r → (d : Operand → Doing Operand) →
      ((a : Operand) (t : State) → Inv m t → OperandOk m t a.is → (x : Operand × State) → d a t ≡ Ok x →
      Operands m t x) →
      (x : Operand × State) → (r.operand >>= d) s ≡ Ok x → Operands m s x
  one_named s i r h d k x e =
      let f = first_then (r.operand s) d x e in
      let l = h.operand m s i f.0 f.1 in
      onward m true s f.0 x l (k f.0.0 f.0.1 l.inv l.post x f.2)

  -- a place, and what is assigned to it
  place_and_value : (s : State) → Inv m s → (r q : Reading) → ReadsExpression r → ReadsExpression q →
      (d : Operand → Operand → Doing Operand) →
      ((a b : Operand) (t : State) → Inv m t → OperandOk m t a.is → ValueOk m t b.is → (x : Operand × State) →
      d a b t ≡ Ok x → Operands m t x) →
      (x : Operand × State) → (r.operand >>= λ a. read_value q >>= λ b. d a b) s ≡ Ok x → Operands m s x
  place_and_value s i r q h j d k x e =
      let f = first_then (r.operand s) (λ a. read_value q >>= λ b. d a b) x e in
      let l = h.operand m s i f.0 f.1 in
      let g = first_then (read_value q f.0.1) (λ b. d f.0.0 b) x f.2 in
      let n = read_ok f.0.1 l.inv q j g.0 g.1 in
      onward m true s f.0 x l (onward m true f.0.1 g.0 x n
      (k f.0.0 g.0.0 g.0.1 n.inv (operand_kept m f.0.1 g.0.1 n.grown.refers f.0.0.is l.post) n.post x g.2))

  three_read : (s : State) → Inv m s → (r q p : Reading) → ReadsExpression r → ReadsExpression q → ReadsExpression p →
      (at : Pos) → (x : Operand × State) →
      (read_value r >>= λ a. read_value q >>= λ b. read_value p >>= λ c. conditional a b c at) s ≡ Ok x → Operands m s x
  three_read s i r q p h j w at x e =
      let f = first_then (read_value r s) (λ a. read_value q >>= λ b. read_value p >>= λ c. conditional a b c at) x e in
      let l = read_ok s i r h f.0 f.1 in
      let g = first_then (read_value q f.0.1) (λ b. read_value p >>= λ c. conditional f.0.0 b c at) x f.2 in
      let n = read_ok f.0.1 l.inv q j g.0 g.1 in
      let k = first_then (read_value p g.0.1) (λ c. conditional f.0.0 g.0.0 c at) x g.2 in
      let o = read_ok g.0.1 n.inv p w k.0 k.1 in
      let a = value_kept m f.0.1 g.0.1 n.grown.refers f.0.0.is l.post in
      onward m true s f.0 x l (onward m true f.0.1 g.0 x n (onward m true g.0.1 k.0 x o
      (conditional_ok m k.0.1 o.inv f.0.0 g.0.0 k.0.0 at (value_kept m g.0.1 k.0.1 o.grown.refers f.0.0.is a)
      (value_kept m g.0.1 k.0.1 o.grown.refers g.0.0.is n.post) o.post x k.2)))

  called_ok : (s : State) → Inv m s → (o : Option ℕ) (y : Syn) (t : Lexeme) (r : Reading) (rs : List Reading) →
      ReadsExpression r → ReadAll rs → (x : Operand × State) → called o y t r rs s ≡ Ok x → Operands m s x
  called_ok s i (Some k) y t r rs h j x e =
      let f = first_then (read_values rs s) (λ xs. library_call (slice_get services k) k xs t.pos (first_of y)) x e in
      let l = read_all_ok rs s i j f.0 f.1 in
      onward m true s f.0 x l (library_ok m f.0.1 l.inv (slice_get services k) k f.0.0 t.pos
      (first_of y) refl l.post x f.2)
  called_ok s i None y t r rs h j x e =
      let f = first_then (read_value r s) (λ g. read_values rs >>= λ xs. call g xs t.pos) x e in
      let l = read_ok s i r h f.0 f.1 in
      let g = first_then (read_values rs f.0.1) (λ xs. call f.0.0 xs t.pos) x f.2 in
      let n = read_all_ok rs f.0.1 l.inv j g.0 g.1 in
      onward m true s f.0 x l (onward m true f.0.1 g.0 x n
      (call_ok m g.0.1 n.inv f.0.0 g.0.0 t.pos
      (value_kept m f.0.1 g.0.1 n.grown.refers f.0.0.is l.post) n.post x g.2))

  prefixed_ok : (s : State) → Inv m s → (o : PrefixOperator) (t : Lexeme) (r : Reading) → ReadsExpression r →
      (x : Operand × State) → prefixed o t r s ≡ Ok x → Operands m s x
  prefixed_ok s i (prefixes.Step o) t r h x e =
      one_named s i r h (λ a. stepped o true a t.pos t.pos)
      (λ a q j k y g. stepped_ok m q j o true a t.pos t.pos k y g) x e
  prefixed_ok s i prefixes.Address t r h x e =
      one_named s i r h (λ a. address a t.pos) (λ a q j k y g. address_ok m q j a t.pos k y g) x e
  prefixed_ok s i prefixes.Indirection t r h x e =
      one_read s i r h (λ a. dereference a t.pos t.pos)
      (λ a q j k y g. dereference_ok m q j a t.pos t.pos k.fits k.type y g) x e
  prefixed_ok s i (prefixes.Unary o) t r h x e =
      one_read s i r h (λ a. unary_on o a t.pos) (λ a q j k y g. unary_ok m q j o a t.pos k y g) x e

  assignment_ok : (s : State) → Inv m s → (o : Option IntOp) (t : Lexeme) (r q : Reading) → ReadsExpression r →
      ReadsExpression q → (x : Operand × State) → assignment o t r q s ≡ Ok x → Operands m s x
  assignment_ok s i None t r q h j x e =
      place_and_value s i r q h j (λ a b. assign a b t.pos) (λ a b z k u v y g. assign_ok m z k a b t.pos u v y g) x e
  assignment_ok s i (Some o) t r q h j x e =
      place_and_value s i r q h j (λ a b. compound o a b t.pos)
      (λ a b z k u v y g. compound_ok m z k o a b t.pos u v y g) x e

  selected_ok : (s : State) → Inv m s → (o : Selection) (t name : Lexeme) (r : Reading) → ReadsExpression r →
      (x : Operand × State) → selected o t name r s ≡ Ok x → Operands m s x
  selected_ok s i Direct t name r h x e =
      one_named s i r h (λ a. member a name.text t.pos) (λ a q j k y g. member_ok m q j a name.text t.pos k y g) x e
  selected_ok s i Indirect t name r h x e =
      one_read s i r h (λ a. member_behind a name.text t.pos)
      (λ a q j k y g. member_behind_ok m q j a name.text t.pos k y g) x e

  size_of_operand : (s : State) → Inv m s → (r : Reading) → ReadsExpression r → (p : Pos) (x : Operand × State) →
      (unevaluated r.operand >>= λ a. sized (operand_type a) p) s ≡ Ok x → Operands m s x
  size_of_operand s i r h p x e =
      let f = first_then (unevaluated r.operand s) (λ a. sized (operand_type a) p) x e in
      let l = unevaluated_ok m s i r.operand (λ ts a. TypeOk ts (operand_type a))
      (λ y g. let k = h.operand false s (weaker m s i) y g in
      record { inv = k.inv; grown = k.grown; post = k.post.type }) f.0 f.1 in
      onward m true s f.0 x l (sized_ok m f.0.1 l.inv (operand_type f.0.0) p x f.2)

  size_of_type : (s : State) → Inv m s → (r : Reading) → ReadsExpression r → (p : Pos) (x : Operand × State) →
      (unevaluated (r.type false) >>= λ of. sized of p) s ≡ Ok x → Operands m s x
  size_of_type s i r h p x e =
      let f = first_then (unevaluated (r.type false) s) (λ of. sized of p) x e in
      let l = unevaluated_ok m s i (r.type false) (λ ts t. TypeOk ts t)
      (λ y g. h.type false false s (weaker m s i) y g) f.0 f.1 in
      onward m true s f.0 x l (sized_ok m f.0.1 l.inv f.0.0 p x f.2)

  cast_read : (s : State) → Inv m s → (r q : Reading) → ReadsExpression r → ReadsExpression q →
      (p : Pos) (x : Operand × State) → (r.type false >>= λ of. read_value q >>= λ a. cast of a p) s ≡ Ok x →
      Operands m s x
  cast_read s i r q h j p x e =
      let f = first_then (r.type false s) (λ of. read_value q >>= λ a. cast of a p) x e in
      let l = h.type m false s i f.0 f.1 in
      let g = first_then (read_value q f.0.1) (λ a. cast f.0.0 a p) x f.2 in
      let n = read_ok f.0.1 l.inv q j g.0 g.1 in
      onward m true s f.0 x l (onward m true f.0.1 g.0 x n
      (cast_ok m g.0.1 n.inv f.0.0 g.0.0 p (type_kept f.0.1.tags g.0.1.tags n.grown.refers.tags f.0.0 l.post)
      n.post x g.2))

  -- an expression of any kind
  pub expression_ok : (k : NodeKind) (t : Lexeme) (xs : Syns) (rs : List Reading) (s : State) → KindFits k t xs →
      Inv m s → ReadAll rs → (x : Operand × State) → expression_of k t xs rs s ≡ Ok x → Operands m s x
  expression_ok Kinds.Name t xs rs s f i h x e = named_ok m s i t x e
  expression_ok Kinds.Number t xs rs s f i h x e = number_ok m s i t f.0 f.1 x e
  expression_ok Kinds.Character t xs rs s f i h x e = character_ok m s i t f x e
  expression_ok Kinds.Text t xs rs s f i h x e = text_ok m s i t xs x e
  expression_ok Kinds.Parenthesized t xs (r ∷ []) s f i h x e =
      one_named s i r h.0 (λ a. gives a.is t.pos) (λ a q j k y g. gave m q j a.is t.pos k y g) x e
  expression_ok Kinds.Index t xs (r ∷ q ∷ []) s f i h x e =
      two_read s i r q h.0 h.1.0 (λ a b. index a b t.pos) (λ a b z j u v y g. index_ok m z j a b t.pos u v y g) x e
  expression_ok Kinds.Call t (more y ys) (r ∷ rs) s f i h x e =
      called_ok s i (called_library s (called_name y)) y t r rs h.0 h.1 x e
  expression_ok (Kinds.Select o) t (more y (more (node k name ys) nil)) (r ∷ rs) s f i h x e =
      selected_ok s i o t name r h.0 x e
  expression_ok (Kinds.Postfix o) t xs (r ∷ []) s f i h x e =
      one_named s i r h.0 (λ a. stepped o false a t.pos a.first)
      (λ a q j k y g. stepped_ok m q j o false a t.pos a.first k y g) x e
  expression_ok (Kinds.Prefix o) t xs (r ∷ []) s f i h x e = prefixed_ok s i o t r h.0 x e
  expression_ok Kinds.SizeofExpression t xs (r ∷ []) s f i h x e = size_of_operand s i r h.0 t.pos x e
  expression_ok Kinds.SizeofType t xs (r ∷ []) s f i h x e = size_of_type s i r h.0 t.pos x e
  expression_ok Kinds.Cast t xs (r ∷ q ∷ []) s f i h x e = cast_read s i r q h.0 h.1.0 t.pos x e
  expression_ok (Kinds.Infix o) t xs (r ∷ q ∷ []) s f i h x e =
      two_read s i r q h.0 h.1.0 (λ a b. infix_join o a b t.pos)
      (λ a b z j u v y g. infix_ok m z j o a b t.pos u v y g) x e
  expression_ok Kinds.Conditional t xs (r ∷ q ∷ p ∷ []) s f i h x e = three_read s i r q p h.0 h.1.0 h.1.1.0 t.pos x e
  expression_ok (Kinds.Assignment o) t xs (r ∷ q ∷ []) s f i h x e = assignment_ok s i o t r q h.0 h.1.0 x e
  expression_ok k t xs rs s f i h x e = refused _ x e
