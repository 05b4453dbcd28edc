-- Arguments, one after another.
use Rattle.std.proofs.Common.{◌≡◌, ℕ, zero, suc, add-one, ◌+◌, ◌<◌, ◌≤◌, Bool, true, false, List, [], ◌∷◌, ◌++◌, length}
use Rattle.std.proofs.Common.{map, get_or, drop, drop-cons, Result, Ok, Err, refl, sym, ap, ◌∙◌, arith, append_assoc}
use Rattle.std.proofs.Common.{◌⊎◌, inl, inr}
use Rattle.std.proofs.lemmas.List.{append-nil, map-append, length-map}
use Rattle.std.proofs.Math.ListN.{drop_of_length-le}
use Rattle.std.specs.Prelude.{◌==◌}
use Rattle.ck_base.specs.declared.positions.Pos.{Pos}
use Rattle.c_tree.specs.Types.{Ty, Pointer, Function, Tys, no_types, also, bare}
use Rattle.c_tree.specs.Terms.{Term, Call, term, terms, with_term}
use Rattle.c_tree.specs.Views.{tys}
use Rattle.c_tree.specs.Scopes.{State, Doing, Fault, give, need, continued, ◌>>◌}
use Rattle.c_tree.specs.Conversions as meant
use Rattle.c_tree.specs.Conversions.{assigned}
use Rattle.c_tree.specs.Expressions.{arguments, many, gives, call_of}
use Rattle.c_expressions.specs.declared.nodes.Nodes.{Nodes}
use Rattle.c_expressions.specs.declared.nodes.Operand.{Operand}
use Rattle.c_expressions.specs.Agreement.{AreBelow}
use Rattle.c_expressions.specs.Answers.{Given, Refuses}
use Rattle.c_operand_rules.specs.Called.{AreThere}
use Rattle.c_expressions.specs.Nodes.{IsWhole, Keeps, IsTerm, operand_in, type_in, term_in, type_count, term_count}
use Rattle.c_expressions.proofs.Agreeing.{below_more}
use Rattle.c_expressions.proofs.Keeping.{keeps_same, keeps_then, operand_kept, bind_refuses, bind_gives, refused}
use Rattle.c_expressions.proofs.Keeping.{needed}

-- what is left of the arguments
abbrev pub left_from : Nodes → List ℕ → List Operand → ℕ → Doing (List Term)
left_from n ps xs k = arguments (tys (map (type_in n) (drop k ps))) (map (operand_in n) (drop k xs))

-- so many arguments are done
pub record Reached (n m : Nodes) (ps : List ℕ) (xs : List Operand) (k : ℕ) (done : List ℕ) : Type 0 where
  pub keeps : Keeps n m
  pub there : AreBelow (term_count m) done
  pub is : (s : State) → left_from n ps xs 0 s
      ≡ continued (left_from n ps xs k s) (λ ys. give (map (term_in m) done ++ ys))

pub continued-give : {A : Type 0} (r : Result (A × State) Fault) → r ≡ continued r give
continued-give (Ok x) = refl
continued-give (Err e) = refl

pub reached_start : (n : Nodes) (ps : List ℕ) (xs : List Operand) → IsWhole n → Reached n n ps xs 0 []
reached_start n ps xs w =
    record { keeps = keeps_same n w; there = tt; is = λ s. continued-give (left_from n ps xs 0 s) }

pub below_at : (n : ℕ) (ks : List ℕ) (k j : ℕ) → AreBelow n ks → k < length ks → j ≡ get_or ks k j → j < n
below_at n [] k j h lt e = absurd (omega arith)
below_at n (i ∷ ks) zero j h lt e = rw e h.0
below_at n (i ∷ ks) (suc k) j h lt e = below_at n ks k j h.1 (omega arith) e

pub there_at : (n : ℕ) (xs : List Operand) (k : ℕ) (x : Operand) → AreThere n xs → k < length xs → x ≡ get_or xs k x →
    x.node < n
there_at n [] k x h lt e = absurd (omega arith)
there_at n (y ∷ xs) zero x h lt e = rw e h.0
there_at n (y ∷ xs) (suc k) x h lt e = there_at n xs k x h.1 (omega arith) e

pub below_kept : (f g : ℕ → Term) (n : ℕ) (ks : List ℕ) → AreBelow n ks → ((k : ℕ) → k < n → f k ≡ g k) →
    map f ks ≡ map g ks
below_kept f g n [] h e = refl
below_kept f g n (k ∷ ks) h e = let a = e k h.0 in let b = below_kept f g n ks h.1 e in cc

pub below_longer : (m n : ℕ) (ks : List ℕ) → m ≤ n → AreBelow m ks → AreBelow n ks
below_longer m n [] le h = tt
below_longer m n (k ∷ ks) le h = let a : k < m = h.0 in (omega arith, below_longer m n ks le h.1)

one_left : (n : Nodes) (ps : List ℕ) (xs : List Operand) (k p : ℕ) (x : Operand) (s : State) → k < length ps →
    k < length xs → p ≡ get_or ps k p → x ≡ get_or xs k x →
    left_from n ps xs k s ≡ continued (assigned (type_in n p) (operand_in n x) s)
    (λ y t. continued (left_from n ps xs (k + 1) t) (λ ys. give (y ∷ ys)))
one_left n ps xs k p x s lp lx ep ex =
    let d : drop k ps ≡ p ∷ drop (k + 1) ps =
    rw (add-one k) (drop-cons ps k p lp ∙ ap (λ q. q ∷ drop (suc k) ps) (sym ep)) in
    let e : drop k xs ≡ x ∷ drop (k + 1) xs =
    rw (add-one k) (drop-cons xs k x lx ∙ ap (λ q. q ∷ drop (suc k) xs) (sym ex)) in
    ap (λ qs. arguments (tys (map (type_in n) qs)) (map (operand_in n) (drop k xs)) s) d
    ∙ ap (λ ys. arguments (also (type_in n p) (tys (map (type_in n) (drop (k + 1) ps)))) (map (operand_in n) ys) s)
    e

pub joined : (r : Result (List Term × State) Fault) (v : Term) (ds : List Term) →
    continued (continued r (λ ys. give (v ∷ ys))) (λ ys. give (ds ++ ys))
    ≡ continued r (λ ys. give ((ds ++ v ∷ []) ++ ys))
joined (Ok x) v ds = ap (λ ys. Ok (ys, x.1)) (sym (append_assoc ds (v ∷ []) x.0))
joined (Err e) v ds = refl

pub reached_more : (n m l : Nodes) (ps : List ℕ) (xs : List Operand) (k p value : ℕ) (x : Operand) (done : List ℕ) →
    AreBelow (type_count n) ps → AreThere (term_count n) xs → Reached n m ps xs k done →
    k < length ps → k < length xs → p ≡ get_or ps k p → x ≡ get_or xs k x →
    Given m l (assigned (type_in m p) (operand_in m x)) IsTerm value →
    Reached n l ps xs (k + 1) (done ++ value ∷ [])
reached_more n m l ps xs k p value x done bp bx h lp lx ep ex g =
    let tp : type_in m p ≡ type_in n p = h.keeps.types p (below_at (type_count n) ps k p bp lp ep) in
    let tx : operand_in m x ≡ operand_in n x = operand_kept n m x h.keeps (there_at (term_count n) xs k x bx lx ex) in
    let le : term_count m ≤ term_count l = let y = g.keeps.more_terms in omega arith in
    let was : map (term_in l) done ≡ map (term_in m) done =
    below_kept (term_in l) (term_in m) (term_count m) done h.there (λ j lt. g.keeps.terms j lt) in
    let all : map (term_in l) (done ++ value ∷ []) ≡ map (term_in m) done ++ g.value ∷ [] =
    map-append (term_in l) done (value ∷ []) ∙ ap (λ ds. ds ++ term_in l value ∷ []) was
    ∙ ap (λ v. map (term_in m) done ++ v ∷ []) g.shows.is in
    record {
      keeps = keeps_then n m l h.keeps g.keeps;
      there = below_more (term_count l) done value
          (below_longer (term_count m) (term_count l) done le h.there) g.shows.there;
      is = λ s.
          let v : assigned (type_in n p) (operand_in n x) s ≡ Ok (g.value, s) =
          ap (λ t. assigned t (operand_in n x) s) (sym tp) ∙ ap (λ y. assigned (type_in m p) y s) (sym tx)
          ∙ g.is s in
          h.is s ∙ ap (λ r. continued r (λ ys. give (map (term_in m) done ++ ys)))
          (one_left n ps xs k p x s lp lx ep ex
          ∙ ap (λ r. continued r (λ y t. continued (left_from n ps xs (k + 1) t) (λ ys. give (y ∷ ys)))) v)
          ∙ joined (left_from n ps xs (k + 1) s) g.value (map (term_in m) done)
          ∙ ap (λ ds. continued (left_from n ps xs (k + 1) s) (λ ys. give (ds ++ ys))) (sym all);
    }

pub reached_refuses : (n m : Nodes) (ps : List ℕ) (xs : List Operand) (k p : ℕ) (x : Operand) (done : List ℕ) (code : ℕ)
    (at : Pos) → AreBelow (type_count n) ps → AreThere (term_count n) xs → Reached n m ps xs k done →
    k < length ps → k < length xs → p ≡ get_or ps k p → x ≡ get_or xs k x →
    Refuses (assigned (type_in m p) (operand_in m x)) code at → Refuses (left_from n ps xs 0) code at
reached_refuses n m ps xs k p x done code at bp bx h lp lx ep ex g s =
    let tp : type_in m p ≡ type_in n p = h.keeps.types p (below_at (type_count n) ps k p bp lp ep) in
    let tx : operand_in m x ≡ operand_in n x = operand_kept n m x h.keeps (there_at (term_count n) xs k x bx lx ex) in
    let v : assigned (type_in n p) (operand_in n x) s ≡ Err (record { code = code; place = at }) =
    ap (λ t. assigned t (operand_in n x) s) (sym tp) ∙ ap (λ y. assigned (type_in m p) y s) (sym tx) ∙ g s in
    h.is s ∙ ap (λ r. continued r (λ ys. give (map (term_in m) done ++ ys)))
    (one_left n ps xs k p x s lp lx ep ex
    ∙ ap (λ r. continued r (λ y t. continued (left_from n ps xs (k + 1) t) (λ ys. give (y ∷ ys)))) v)

nothing_left : (n : Nodes) (ps : List ℕ) (xs : List Operand) (k : ℕ) (s : State) → (length ps ≤ k) ⊎ (length xs ≤ k) →
    left_from n ps xs k s ≡ Ok ([], s)
nothing_left n ps xs k s (inl h) =
    let d : drop k ps ≡ [] = drop_of_length-le ps h in
    ap (λ qs. arguments (tys (map (type_in n) qs)) (map (operand_in n) (drop k xs)) s) d
nothing_left n ps xs k s (inr h) =
    let d : drop k xs ≡ [] = drop_of_length-le xs h in
    ap (λ ys. arguments (tys (map (type_in n) (drop k ps))) (map (operand_in n) ys) s) d
    ∙ none (tys (map (type_in n) (drop k ps)))
  where
    none : (ts : Tys) → arguments ts [] s ≡ Ok ([], s)
    none no_types = refl
    none (also t ts) = refl

pub reached_end : (n m : Nodes) (ps : List ℕ) (xs : List Operand) (k : ℕ) (done : List ℕ) → Reached n m ps xs k done →
    (length ps ≤ k) ⊎ (length xs ≤ k) → (s : State) → left_from n ps xs 0 s ≡ Ok (map (term_in m) done, s)
reached_end n m ps xs k done h e s =
    h.is s ∙ ap (λ r. continued r (λ ys. give (map (term_in m) done ++ ys))) (nothing_left n ps xs k s e)
    ∙ ap (λ ys. Ok (ys, s)) (append-nil (map (term_in m) done))

many-tys : (f : ℕ → Ty) (ps : List ℕ) → many (tys (map f ps)) ≡ length ps
many-tys f [] = refl
many-tys f (p ∷ ps) = omega (arith, many-tys f ps)

pub same_number : (go : ℕ → Ty) (is : Operand → meant.Operand) (ps : List ℕ) (xs : List Operand) →
    (length (map is xs) == many (tys (map go ps))) ≡ (length xs == length ps)
same_number go is ps xs =
    let a : length (map is xs) ≡ length xs = simp length-map in
    ap (λ n. n == many (tys (map go ps))) a ∙ ap (λ n. length xs == n) (many-tys go ps)

-- ---- what a call does behind its arguments

abbrev pub after_arguments : Nodes → Operand → ℕ → List ℕ → List Operand → Pos → List Term → Doing meant.Operand
after_arguments n f g ps xs p ys =
    need (length (map (operand_in n) xs) == many (tys (map (type_in n) ps))) 136 f.first
    >> gives (term Call (with_term (term_in n f.node) (terms ys)) (bare (type_in n g)) p) f.first

abbrev pub call_in : Nodes → Operand → ℕ → List ℕ → List Operand → Pos → Doing meant.Operand
call_in n f g ps xs p = call_of (Pointer (Function (type_in n g) (tys (map (type_in n) ps)))) (operand_in n f)
    (map (operand_in n) xs) p

pub call_refuses : (n : Nodes) (f : Operand) (g : ℕ) (ps : List ℕ) (xs : List Operand) (p : Pos) (code : ℕ) (q : Pos) →
    Refuses (left_from n ps xs 0) code q → Refuses (call_in n f g ps xs p) code q
call_refuses n f g ps xs p code q h = bind_refuses (left_from n ps xs 0) (after_arguments n f g ps xs p) code q h

pub call_few : (n : Nodes) (f : Operand) (g : ℕ) (ps : List ℕ) (xs : List Operand) (p : Pos) (v : List Term)
    (b : Bool) → ((s : State) → left_from n ps xs 0 s ≡ Ok (v, s)) →
    (length (map (operand_in n) xs) == many (tys (map (type_in n) ps))) ≡ b → b ≡ false →
    Refuses (call_in n f g ps xs p) 136 f.first
call_few n f g ps xs p v b h e d s =
    bind_gives (left_from n ps xs 0) (after_arguments n f g ps xs p) v s (h s)
    ∙ refused (length (map (operand_in n) xs) == many (tys (map (type_in n) ps))) 136 f.first
    (gives (term Call (with_term (term_in n f.node) (terms v)) (bare (type_in n g)) p) f.first) (e ∙ d) s

pub call_done : (n : Nodes) (f : Operand) (g : ℕ) (ps : List ℕ) (xs : List Operand) (p : Pos) (v : List Term)
    (b : Bool) → ((s : State) → left_from n ps xs 0 s ≡ Ok (v, s)) →
    (length (map (operand_in n) xs) == many (tys (map (type_in n) ps))) ≡ b → b ≡ true → (s : State) →
    call_in n f g ps xs p s ≡ Ok (
      record {
        is = term Call (with_term (term_in n f.node) (terms v))
            (bare (type_in n g)) p;
        first = f.first;
      },
      s,
    )
call_done n f g ps xs p v b h e d s =
    bind_gives (left_from n ps xs 0) (after_arguments n f g ps xs p) v s (h s)
    ∙ needed (length (map (operand_in n) xs) == many (tys (map (type_in n) ps))) 136 f.first
    (gives (term Call (with_term (term_in n f.node) (terms v)) (bare (type_in n g)) p) f.first) s (e ∙ d)
