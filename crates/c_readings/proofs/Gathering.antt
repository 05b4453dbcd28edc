-- Parts that are read from left to right, and the rule that is asked then.
use Rattle.std.proofs.Common.{◌≡◌, ℕ, suc, List, [], ◌∷◌, length, Option, Some, None, Result, Ok, Err, true, false}
use Rattle.std.proofs.Common.{refl, sym, ap, subst, ◌∙◌}
use Rattle.ck_base.specs.declared.positions.Pos.{Pos}
use Rattle.ck_base.specs.declared.refusal.Refusal.{Refusal}
use Rattle.ck_base.specs.Tokens.{Lexeme}
use Rattle.ck_int.specs.declared.kinds.IntOp.{IntOp}
use Rattle.c_tree.specs.declared.syntax.Node.{Node}
use Rattle.c_tree.specs.declared.syntax.NodeKind.{NodeKind}
use Rattle.c_tree.specs.declared.syntax.NodeKind.TheVariants as Kinds
use Rattle.c_tree.specs.declared.syntax.InfixOperator.{InfixOperator}
use Rattle.c_tree.specs.declared.syntax.StepOperator.{StepOperator}
use Rattle.c_tree.specs.declared.syntax.PrefixOperator.TheVariants as prefixes
use Rattle.c_tree.specs.declared.typed.UnaryOp.{UnaryOp}
use Rattle.c_tree.specs.Syntax.{Syn, Syns, node, nil, more}
use Rattle.c_tree.specs.Scopes.{State, Doing, Fault, give, refuse, continued, ◌>>=◌}
use Rattle.c_tree.specs.Conversions as meant
use Rattle.c_tree.specs.Conversions.{operand_type}
use Rattle.c_tree.specs.Readings.{Reading}
use Rattle.c_tree.specs.Expressions.{read_value, expression_of, gives, index, infix_join, stepped, address, dereference}
use Rattle.c_tree.specs.Expressions.{unary_on, conditional, cast, sized, unevaluated, assign, compound}
use Rattle.c_tree.specs.Programs.{reading, readings, reading_of}
use Rattle.c_elaborator.specs.declared.work.Work.{Work}
use Rattle.c_elaborator.specs.Work.{Shows}
use Rattle.c_elaborator.specs.Answers.{quietly, Answers, Done}
use Rattle.c_elaborator.specs.Parts.{IsPart, AreParts}
use Rattle.c_elaborator.proofs.Sequencing.{quiet_law, then, failed, gave, answers_at}
use Rattle.c_readings.specs.Kids.{HasNot}
use Rattle.c_readings.specs.Gathered.{Two, both, with_one, with_two, with_three, operand_of, type_of, one_operand}
use Rattle.c_readings.specs.Gathered.{one_value, one_type, two_values, place_and_value, three_values, type_and_value}
use Rattle.c_readings.specs.Gathered.{assigning}
use Rattle.c_readings.proofs.Among.{bind_ext}
use Rattle.c_readings.proofs.Kids.{Opened, cut, no_parts, count, counted}

-- ---- the parts of the syntax

pub reading_node : (k : NodeKind) (t : Lexeme) (xs : Syns) → reading (node k t xs) ≡ reading_of k t xs (readings xs)
unfolding reading
reading_node k t xs = refl

pub readings_more : (x : Syn) (xs : Syns) → readings (more x xs) ≡ reading x ∷ readings xs
unfolding readings
readings_more x xs = refl

pub readings_nil : readings nil ≡ []
unfolding readings
readings_nil = refl

readings_length : (xs : Syns) → length (readings xs) ≡ count xs
readings_length nil = ap length readings_nil
readings_length (more x xs) = ap length (readings_more x xs) ∙ ap suc (readings_length xs)

pub parts_length : (w : Work) (ks : List ℕ) (xs : Syns) → AreParts w ks xs → length (readings xs) ≡ length ks
parts_length w ks xs p = readings_length xs ∙ counted w ks xs p

-- what a node's kind answers, the part that it is answers
pub at_node : {A X : Type 0} (u v : Work) (n : Node) (x : Syn) (d : Reading → Doing A) (There : Work → X → Type 0)
    (Is : Work → X → State → A → Type 0) (r : Result X Refusal) → (o : Opened u n x) →
    Answers quietly u v (d (reading_of n.kind o.token o.parts (readings o.parts))) There Is r →
    Answers quietly u v (d (reading x)) There Is r
at_node u v n x d There Is r o a =
    subst (λ (q : Reading). Answers quietly u v (d q) There Is r)
    (sym (ap reading o.is ∙ reading_node n.kind o.token o.parts)) a

-- ---- one step and then the next

pub step_failed : {A B X Z : Type 0} (u v w : Work) (g : Doing B) (d : Doing A) (f : A → Doing B)
    (There : Work → X → Type 0) (Is : Work → X → State → A → Type 0) (ThereZ : Work → Z → Type 0)
    (IsZ : Work → Z → State → B → Type 0) (e : Refusal) →
    ((s : State) → g s ≡ (d >>= f) s) → Answers quietly u v d There Is (Err e) →
    Answers quietly u w g ThereZ IsZ (Err e)
step_failed u v w g d f There Is ThereZ IsZ e h a =
    answers_at quietly u w g (d >>= f) ThereZ IsZ (Err e) (λ s k. h s)
    (failed quietly u v w d f There Is ThereZ IsZ e a)

pub step_then : {A B Z : Type 0} (u v w : Work) (g : Doing B) (d : Doing A) (f : A → Doing B) (a : A) (T : Type 0)
    (There : Work → Z → Type 0) (Is : Work → Z → State → B → Type 0) (r : Result Z Refusal) →
    ((s : State) → g s ≡ (d >>= f) s) → Done quietly u v d T (λ s x. x ≡ a) → Answers quietly v w (f a) There Is r →
    Answers quietly u w g There Is r
step_then u v w g d f a T There Is r h p q =
    answers_at quietly u w g (d >>= f) There Is r (λ s k. h s) (then quietly quiet_law u v w d f a T There Is r p q)

-- ---- one and then the other

pub both_then : {A B C : Type 0} (d : Doing A) (e : Doing B) (f : A → B → Doing C) (s : State) →
    (both d e >>= λ p. f p.left p.right) s ≡ (d >>= λ a. e >>= λ b. f a b) s
both_then {A} {B} {C} d e f s = outer (d s)
  where
    inner : (a : A) (o : Result (B × State) Fault) →
        continued (continued o (λ b. give (let p : Two A B = record { left = a; right = b } in p)))
        (λ p. f p.left p.right) ≡ continued o (λ b. f a b)
    inner a (Ok y) = refl
    inner a (Err y) = refl

    outer : (o : Result (A × State) Fault) →
        continued (continued o (λ a. e >>= λ b. give (let p : Two A B = record { left = a; right = b } in p)))
        (λ p. f p.left p.right) ≡ continued o (λ a. e >>= λ b. f a b)
    outer (Ok x) = inner x.0 (e x.1)
    outer (Err x) = refl

pub both_done : {A B : Type 0} (u v w : Work) (d : Doing A) (e : Doing B) (a c : A) (b : B) (T S U : Type 0) → a ≡ c →
    U → Done quietly u v d T (λ s z. z ≡ a) → Done quietly v w e S (λ s z. z ≡ b) →
    Done quietly u w (both d e) U (λ s z. z ≡ (let p : Two A B = record { left = c; right = b } in p))
both_done {A} {B} u v w d e a c b T S U h t p q =
    let two : A → B → Two A B = λ y z. record { left = y; right = z } in
    let Is : Work → Unit {0} → State → Two A B → Type 0 = λ x y s z. z ≡ two c b in
    then quietly quiet_law u v w d (λ z. e >>= λ y. give (two z y)) a T (λ x y. U) Is (Ok tt) p
    (then quietly quiet_law v w w e (λ y. give (two a y)) b S (λ x y. U) Is (Ok tt) q
    (subst (λ (z : A). Done quietly w w (give (two z b)) U (Is w tt)) (sym h)
    (gave quietly quiet_law w (let r : Two A B = record { left = c; right = b } in r) U q.whole t)))

-- ---- what is read of some parts

one_part : (w : Work) (a : ℕ) (xs : Syns) → AreParts w (a ∷ []) xs →
    (x : Syn) × (readings xs ≡ reading x ∷ []) × IsPart w a x
one_part w a xs p =
    let c = cut w a [] xs p in (
      c.head,
      ap readings c.is ∙ readings_more c.head c.tail
          ∙ ap (λ z. reading c.head ∷ z) (ap readings (no_parts w c.tail c.others) ∙ readings_nil),
      c.first,
    )

two_parts : (w : Work) (a b : ℕ) (xs : Syns) → AreParts w (a ∷ b ∷ []) xs →
    (x : Syn) × (y : Syn) × (readings xs ≡ reading x ∷ reading y ∷ []) × IsPart w a x × IsPart w b y
two_parts w a b xs p =
    let c = cut w a (b ∷ []) xs p in
    let e = one_part w b c.tail c.others in
    (c.head, e.0, ap readings c.is ∙ readings_more c.head c.tail ∙ ap (λ z. reading c.head ∷ z) e.1, c.first, e.2)

three_parts : (w : Work) (a b d : ℕ) (xs : Syns) → AreParts w (a ∷ b ∷ d ∷ []) xs →
    (x : Syn) × (y : Syn) × (z : Syn) × (readings xs ≡ reading x ∷ reading y ∷ reading z ∷ []) × IsPart w a x ×
    IsPart w b y × IsPart w d z
three_parts w a b d xs p =
    let c = cut w a (b ∷ d ∷ []) xs p in
    let e = two_parts w b d c.tail c.others in (
      c.head,
      e.0,
      e.1,
      ap readings c.is ∙ readings_more c.head c.tail ∙ ap (λ z. reading c.head ∷ z) e.2,
      c.first,
      e.3,
      e.4,
    )

pub answers_one : {A X : Type 0} (u v : Work) (ks : List ℕ) (a : ℕ) (d : Reading → Doing A) (p : Pos)
    (There : Work → X → Type 0) (Is : Work → X → State → A → Type 0) (r : Result X Refusal) → ks ≡ a ∷ [] →
    ((x : Syn) → IsPart u a x → Answers quietly u v (d (reading x)) There Is r) → (xs : Syns) → AreParts u ks xs →
    Answers quietly u v (with_one d p (readings xs)) There Is r
answers_one u v ks a d p There Is r e h xs k =
    let q = one_part u a xs (subst (λ (z : List ℕ). AreParts u z xs) e k) in
    subst (λ (rs : List Reading). Answers quietly u v (with_one d p rs) There Is r) (sym q.1) (h q.0 q.2)

pub answers_two : {A X : Type 0} (u v : Work) (ks : List ℕ) (a b : ℕ) (d : Reading → Reading → Doing A) (p : Pos)
    (There : Work → X → Type 0) (Is : Work → X → State → A → Type 0) (r : Result X Refusal) → ks ≡ a ∷ b ∷ [] →
    ((x y : Syn) → IsPart u a x → IsPart u b y → Answers quietly u v (d (reading x) (reading y)) There Is r) →
    (xs : Syns) → AreParts u ks xs → Answers quietly u v (with_two d p (readings xs)) There Is r
answers_two u v ks a b d p There Is r e h xs k =
    let q = two_parts u a b xs (subst (λ (z : List ℕ). AreParts u z xs) e k) in
    subst (λ (rs : List Reading). Answers quietly u v (with_two d p rs) There Is r) (sym q.2) (h q.0 q.1 q.3 q.4)

pub answers_three : {A X : Type 0} (u v : Work) (ks : List ℕ) (a b c : ℕ) (d : Reading → Reading → Reading → Doing A)
    (p : Pos) (There : Work → X → Type 0) (Is : Work → X → State → A → Type 0) (r : Result X Refusal) →
    ks ≡ a ∷ b ∷ c ∷ [] →
    ((x y z : Syn) → IsPart u a x → IsPart u b y → IsPart u c z →
    Answers quietly u v (d (reading x) (reading y) (reading z)) There Is r) → (xs : Syns) → AreParts u ks xs →
    Answers quietly u v (with_three d p (readings xs)) There Is r
answers_three u v ks a b c d p There Is r e h xs k =
    let q = three_parts u a b c xs (subst (λ (z : List ℕ). AreParts u z xs) e k) in
    subst (λ (rs : List Reading). Answers quietly u v (with_three d p rs) There Is r) (sym q.3)
    (h q.0 q.1 q.2 q.4 q.5 q.6)

not_one : {A : Type 0} (d : Reading → Doing A) (p : Pos) (rs : List Reading) (s : State) → (length rs ≡ 1 → ⊥) →
    with_one d p rs s ≡ refuse 120 p s
not_one d p [] s h = refl
not_one d p (r ∷ []) s h = absurd (h refl)
not_one d p (r ∷ q ∷ rs) s h = refl

not_two : {A : Type 0} (d : Reading → Reading → Doing A) (p : Pos) (rs : List Reading) (s : State) →
    (length rs ≡ 2 → ⊥) → with_two d p rs s ≡ refuse 120 p s
not_two d p [] s h = refl
not_two d p (r ∷ []) s h = refl
not_two d p (r ∷ q ∷ []) s h = absurd (h refl)
not_two d p (r ∷ q ∷ o ∷ rs) s h = refl

not_three : {A : Type 0} (d : Reading → Reading → Reading → Doing A) (p : Pos) (rs : List Reading) (s : State) →
    (length rs ≡ 3 → ⊥) → with_three d p rs s ≡ refuse 120 p s
not_three d p [] s h = refl
not_three d p (r ∷ []) s h = refl
not_three d p (r ∷ q ∷ []) s h = refl
not_three d p (r ∷ q ∷ o ∷ []) s h = absurd (h refl)
not_three d p (r ∷ q ∷ o ∷ z ∷ rs) s h = refl

pub refused_one : {A : Type 0} (w : Work) (ks : List ℕ) (d : Reading → Doing A) (p : Pos) → HasNot 1 ks → (xs : Syns) →
    AreParts w ks xs → (s : State) → Shows w s → with_one d p (readings xs) s ≡ refuse 120 p s
refused_one w ks d p h xs k s z = not_one d p (readings xs) s (λ e. h (sym (parts_length w ks xs k) ∙ e))

pub refused_two : {A : Type 0} (w : Work) (ks : List ℕ) (d : Reading → Reading → Doing A) (p : Pos) → HasNot 2 ks →
    (xs : Syns) → AreParts w ks xs → (s : State) → Shows w s → with_two d p (readings xs) s ≡ refuse 120 p s
refused_two w ks d p h xs k s z = not_two d p (readings xs) s (λ e. h (sym (parts_length w ks xs k) ∙ e))

pub refused_three : {A : Type 0} (w : Work) (ks : List ℕ) (d : Reading → Reading → Reading → Doing A) (p : Pos) →
    HasNot 3 ks → (xs : Syns) → AreParts w ks xs → (s : State) → Shows w s →
    with_three d p (readings xs) s ≡ refuse 120 p s
refused_three w ks d p h xs k s z = not_three d p (readings xs) s (λ e. h (sym (parts_length w ks xs k) ∙ e))

-- ---- constructs

pub parenthesized_is : (t : Lexeme) (p : Pos) → t.pos ≡ p → (xs : Syns) (rs : List Reading) (s : State) →
    expression_of Kinds.Parenthesized t xs rs s ≡ (one_operand p rs >>= λ a. gives a.is p) s
parenthesized_is t p e xs rs s = at rs ∙ ap (λ q. (one_operand q rs >>= λ a. gives a.is q) s) e
  where
    at : (rs : List Reading) →
        expression_of Kinds.Parenthesized t xs rs s ≡ (one_operand t.pos rs >>= λ a. gives a.is t.pos) s
    at [] = refl
    at (r ∷ []) = refl
    at (r ∷ q ∷ rs) = refl

pub postfix_is : (o : StepOperator) (t : Lexeme) (p : Pos) → t.pos ≡ p → (xs : Syns) (rs : List Reading) (s : State) →
    expression_of (Kinds.Postfix o) t xs rs s ≡ (one_operand p rs >>= λ a. stepped o false a p a.first) s
postfix_is o t p e xs rs s = at rs ∙ ap (λ q. (one_operand q rs >>= λ a. stepped o false a q a.first) s) e
  where
    at : (rs : List Reading) →
        expression_of (Kinds.Postfix o) t xs rs s ≡ (one_operand t.pos rs >>= λ a. stepped o false a t.pos a.first) s
    at [] = refl
    at (r ∷ []) = refl
    at (r ∷ q ∷ rs) = refl

pub step_is : (o : StepOperator) (t : Lexeme) (p : Pos) → t.pos ≡ p → (xs : Syns) (rs : List Reading) (s : State) →
    expression_of (Kinds.Prefix (prefixes.Step o)) t xs rs s ≡ (one_operand p rs >>= λ a. stepped o true a p p) s
step_is o t p e xs rs s = at rs ∙ ap (λ q. (one_operand q rs >>= λ a. stepped o true a q q) s) e
  where
    at : (rs : List Reading) →
        expression_of (Kinds.Prefix (prefixes.Step o)) t xs rs s
        ≡ (one_operand t.pos rs >>= λ a. stepped o true a t.pos t.pos) s
    at [] = refl
    at (r ∷ []) = refl
    at (r ∷ q ∷ rs) = refl

pub address_is : (t : Lexeme) (p : Pos) → t.pos ≡ p → (xs : Syns) (rs : List Reading) (s : State) →
    expression_of (Kinds.Prefix prefixes.Address) t xs rs s ≡ (one_operand p rs >>= λ a. address a p) s
address_is t p e xs rs s = at rs ∙ ap (λ q. (one_operand q rs >>= λ a. address a q) s) e
  where
    at : (rs : List Reading) →
        expression_of (Kinds.Prefix prefixes.Address) t xs rs s ≡ (one_operand t.pos rs >>= λ a. address a t.pos) s
    at [] = refl
    at (r ∷ []) = refl
    at (r ∷ q ∷ rs) = refl

pub indirection_is : (t : Lexeme) (p : Pos) → t.pos ≡ p → (xs : Syns) (rs : List Reading) (s : State) →
    expression_of (Kinds.Prefix prefixes.Indirection) t xs rs s ≡ (one_value p rs >>= λ a. dereference a p p) s
indirection_is t p e xs rs s = at rs ∙ ap (λ q. (one_value q rs >>= λ a. dereference a q q) s) e
  where
    at : (rs : List Reading) →
        expression_of (Kinds.Prefix prefixes.Indirection) t xs rs s
        ≡ (one_value t.pos rs >>= λ a. dereference a t.pos t.pos) s
    at [] = refl
    at (r ∷ []) = refl
    at (r ∷ q ∷ rs) = refl

pub unary_is : (o : UnaryOp) (t : Lexeme) (p : Pos) → t.pos ≡ p → (xs : Syns) (rs : List Reading) (s : State) →
    expression_of (Kinds.Prefix (prefixes.Unary o)) t xs rs s ≡ (one_value p rs >>= λ a. unary_on o a p) s
unary_is o t p e xs rs s = at rs ∙ ap (λ q. (one_value q rs >>= λ a. unary_on o a q) s) e
  where
    at : (rs : List Reading) →
        expression_of (Kinds.Prefix (prefixes.Unary o)) t xs rs s ≡ (one_value t.pos rs >>= λ a. unary_on o a t.pos) s
    at [] = refl
    at (r ∷ []) = refl
    at (r ∷ q ∷ rs) = refl

pub size_of_expression_is : (t : Lexeme) (p : Pos) → t.pos ≡ p → (xs : Syns) (rs : List Reading) (s : State) →
    expression_of Kinds.SizeofExpression t xs rs s
    ≡ (unevaluated (one_operand p rs) >>= λ a. sized (operand_type a) p) s
size_of_expression_is t p e xs rs s =
    at rs ∙ ap (λ q. (unevaluated (one_operand q rs) >>= λ a. sized (operand_type a) q) s) e
  where
    at : (rs : List Reading) →
        expression_of Kinds.SizeofExpression t xs rs s
        ≡ (unevaluated (one_operand t.pos rs) >>= λ a. sized (operand_type a) t.pos) s
    at [] = refl
    at (r ∷ []) = refl
    at (r ∷ q ∷ rs) = refl

pub size_of_type_is : (t : Lexeme) (p : Pos) → t.pos ≡ p → (xs : Syns) (rs : List Reading) (s : State) →
    expression_of Kinds.SizeofType t xs rs s ≡ (unevaluated (one_type p rs) >>= λ of. sized of p) s
size_of_type_is t p e xs rs s = at rs ∙ ap (λ q. (unevaluated (one_type q rs) >>= λ of. sized of q) s) e
  where
    at : (rs : List Reading) →
        expression_of Kinds.SizeofType t xs rs s ≡ (unevaluated (one_type t.pos rs) >>= λ of. sized of t.pos) s
    at [] = refl
    at (r ∷ []) = refl
    at (r ∷ q ∷ rs) = refl

pub index_is : (t : Lexeme) (p : Pos) → t.pos ≡ p → (xs : Syns) (rs : List Reading) (s : State) →
    expression_of Kinds.Index t xs rs s ≡ (two_values p rs >>= λ x. index x.left x.right p) s
index_is t p e xs rs s = at rs ∙ ap (λ q. (two_values q rs >>= λ x. index x.left x.right q) s) e
  where
    at : (rs : List Reading) →
        expression_of Kinds.Index t xs rs s ≡ (two_values t.pos rs >>= λ x. index x.left x.right t.pos) s
    at [] = refl
    at (r ∷ []) = refl
    at (r ∷ q ∷ []) = sym (both_then (read_value r) (read_value q) (λ a b. index a b t.pos) s)
    at (r ∷ q ∷ o ∷ rs) = refl

pub infix_is : (o : InfixOperator) (t : Lexeme) (p : Pos) → t.pos ≡ p → (xs : Syns) (rs : List Reading) (s : State) →
    expression_of (Kinds.Infix o) t xs rs s ≡ (two_values p rs >>= λ x. infix_join o x.left x.right p) s
infix_is o t p e xs rs s = at rs ∙ ap (λ q. (two_values q rs >>= λ x. infix_join o x.left x.right q) s) e
  where
    at : (rs : List Reading) →
        expression_of (Kinds.Infix o) t xs rs s ≡ (two_values t.pos rs >>= λ x. infix_join o x.left x.right t.pos) s
    at [] = refl
    at (r ∷ []) = refl
    at (r ∷ q ∷ []) = sym (both_then (read_value r) (read_value q) (λ a b. infix_join o a b t.pos) s)
    at (r ∷ q ∷ o ∷ rs) = refl

pub cast_is : (t : Lexeme) (p : Pos) → t.pos ≡ p → (xs : Syns) (rs : List Reading) (s : State) →
    expression_of Kinds.Cast t xs rs s ≡ (type_and_value p rs >>= λ x. cast x.left x.right p) s
cast_is t p e xs rs s = at rs ∙ ap (λ q. (type_and_value q rs >>= λ x. cast x.left x.right q) s) e
  where
    at : (rs : List Reading) →
        expression_of Kinds.Cast t xs rs s ≡ (type_and_value t.pos rs >>= λ x. cast x.left x.right t.pos) s
    at [] = refl
    at (r ∷ []) = refl
    at (r ∷ q ∷ []) = sym (both_then (type_of r) (read_value q) (λ of a. cast of a t.pos) s)
    at (r ∷ q ∷ o ∷ rs) = refl

pub assign_is : (t : Lexeme) (p : Pos) → t.pos ≡ p → (xs : Syns) (rs : List Reading) (s : State) →
    expression_of (Kinds.Assignment None) t xs rs s ≡ (place_and_value p rs >>= λ x. assigning None x p) s
assign_is t p e xs rs s = at rs ∙ ap (λ q. (place_and_value q rs >>= λ x. assigning None x q) s) e
  where
    at : (rs : List Reading) →
        expression_of (Kinds.Assignment None) t xs rs s ≡ (place_and_value t.pos rs >>= λ x. assigning None x t.pos) s
    at [] = refl
    at (r ∷ []) = refl
    at (r ∷ q ∷ []) = sym (both_then (operand_of r) (read_value q) (λ a b. assign a b t.pos) s)
    at (r ∷ q ∷ o ∷ rs) = refl

pub compound_is : (o : IntOp) (t : Lexeme) (p : Pos) → t.pos ≡ p → (xs : Syns) (rs : List Reading) (s : State) →
    expression_of (Kinds.Assignment (Some o)) t xs rs s ≡ (place_and_value p rs >>= λ x. assigning (Some o) x p) s
compound_is o t p e xs rs s = at rs ∙ ap (λ q. (place_and_value q rs >>= λ x. assigning (Some o) x q) s) e
  where
    at : (rs : List Reading) →
        expression_of (Kinds.Assignment (Some o)) t xs rs s
        ≡ (place_and_value t.pos rs >>= λ x. assigning (Some o) x t.pos) s
    at [] = refl
    at (r ∷ []) = refl
    at (r ∷ q ∷ []) = sym (both_then (operand_of r) (read_value q) (λ a b. compound o a b t.pos) s)
    at (r ∷ q ∷ o ∷ rs) = refl

pub assignment_is : (o : Option IntOp) (t : Lexeme) (p : Pos) → t.pos ≡ p →
    (xs : Syns) (rs : List Reading) (s : State) →
    expression_of (Kinds.Assignment o) t xs rs s ≡ (place_and_value p rs >>= λ x. assigning o x p) s
assignment_is None t p e xs rs s = assign_is t p e xs rs s
assignment_is (Some o) t p e xs rs s = compound_is o t p e xs rs s

pub conditional_is : (t : Lexeme) (p : Pos) → t.pos ≡ p → (xs : Syns) (rs : List Reading) (s : State) →
    expression_of Kinds.Conditional t xs rs s
    ≡ (three_values p rs >>= λ x. conditional x.left x.right.left x.right.right p) s
conditional_is t p e xs rs s =
    at rs ∙ ap (λ q. (three_values q rs >>= λ x. conditional x.left x.right.left x.right.right q) s) e
  where
    at : (rs : List Reading) →
        expression_of Kinds.Conditional t xs rs s
        ≡ (three_values t.pos rs >>= λ x. conditional x.left x.right.left x.right.right t.pos) s
    at [] = refl
    at (r ∷ []) = refl
    at (r ∷ q ∷ []) = refl
    at (r ∷ q ∷ o ∷ []) = sym
        (both_then (read_value r) (both (read_value q) (read_value o)) (λ a y. conditional a y.left y.right t.pos) s
        ∙ bind_ext (read_value r) (λ a. both (read_value q) (read_value o) >>= λ y. conditional a y.left y.right t.pos)
        (λ a. read_value q >>= λ b. read_value o >>= λ c. conditional a b c t.pos) s
        (λ a u. both_then (read_value q) (read_value o) (λ b c. conditional a b c t.pos) u))
    at (r ∷ q ∷ o ∷ z ∷ rs) = refl
