-- Arguments as they are asked for, one after another.
use Rattle.std.proofs.Common.{◌≡◌, ℕ, zero, suc, add-one, ◌+◌, ◌<◌, ◌≤◌, Bool, true, false, List, [], ◌∷◌, ◌++◌, length}
use Rattle.std.proofs.Common.{map, get_or, drop, drop-cons, Result, Ok, Err, Option, Some, None, refl, sym, ap, subst}
use Rattle.std.proofs.Common.{◌∙◌, arith, ◌⊎◌, inl, inr}
use Rattle.std.proofs.lemmas.List.{append-nil, map-append, length-map}
use Rattle.std.proofs.Math.ListN.{drop_of_length-le}
use Rattle.std.specs.Prelude.{◌==◌, slice_get}
use Rattle.ck_base.specs.declared.positions.Pos.{Pos}
use Rattle.c_tree.specs.Terms.{Term, Library, term, terms}
use Rattle.c_tree.specs.Scopes.{State, Doing, Fault, give, need, continued, ◌>>◌}
use Rattle.c_tree.specs.Types.{Ty}
use Rattle.c_tree.specs.Conversions as meant
use Rattle.c_tree.specs.Conversions.{assigned}
use Rattle.c_tree.specs.Expressions.{asked, all_asked, given_type, gives, library_call}
use Rattle.c_tree.specs.Libraries as libraries
use Rattle.c_expressions.specs.declared.nodes.Nodes.{Nodes}
use Rattle.c_expressions.specs.declared.nodes.Operand.{Operand}
use Rattle.c_operators.specs.declared.services.Asked.{Asked}
use Rattle.c_operators.specs.declared.services.Given.{Given}
use Rattle.c_operators.specs.declared.services.Service.{Service}
use Rattle.c_operators.specs.declared.services.TheConstants.{SERVICES}
use Rattle.c_expressions.specs.Agreement.{AreBelow}
use Rattle.ck_base.specs.declared.refusal.Refusal.{Refusal}
use Rattle.c_expressions.specs.Answers as answers
use Rattle.c_expressions.specs.Answers.{Refuses, Answers}
use Rattle.c_operand_rules.specs.Called.{AreThere}
use Rattle.c_expressions.specs.Nodes.{IsWhole, Keeps, IsTerm, HasType, operand_in, type_in, term_in, term_count}
use Rattle.c_operators.specs.Services.{asked_as, takes_as, given_as, library_as, IsFound}
use Rattle.c_expressions.proofs.Agreeing.{below_more}
use Rattle.c_operand_rules.proofs.Arguments.{continued-give, joined, there_at, below_kept, below_longer}
use Rattle.c_expressions.proofs.Keeping.{keeps_same, keeps_then, operand_kept, bind_refuses, bind_gives, refused}
use Rattle.c_expressions.proofs.Keeping.{needed}
use Rattle.c_expressions.proofs.Keeping.{answers_after, answers_is}

-- what is left of the arguments
abbrev pub asked_from : Nodes → List Asked → List Operand → ℕ → Doing (List Term)
asked_from n gs xs k = all_asked (map asked_as (drop k gs)) (map (operand_in n) (drop k xs))

-- so many arguments are done
pub record Asking (n m : Nodes) (gs : List Asked) (xs : List Operand) (k : ℕ) (done : List ℕ) : Type 0 where
  pub keeps : Keeps n m
  pub there : AreBelow (term_count m) done
  pub is : (s : State) → asked_from n gs xs 0 s
      ≡ continued (asked_from n gs xs k s) (λ ys. give (map (term_in m) done ++ ys))

pub asking_start : (n : Nodes) (gs : List Asked) (xs : List Operand) → IsWhole n → Asking n n gs xs 0 []
asking_start n gs xs w = record {
  keeps = keeps_same n w;
  there = tt;
  is = λ s. continued-give (asked_from n gs xs 0 s);
}

one_asked : (n : Nodes) (gs : List Asked) (xs : List Operand) (k : ℕ) (a : Asked) (x : Operand) (s : State) →
    k < length gs → k < length xs → a ≡ get_or gs k a → x ≡ get_or xs k x →
    asked_from n gs xs k s ≡ continued (asked (asked_as a) (operand_in n x) s)
    (λ y t. continued (asked_from n gs xs (k + 1) t) (λ ys. give (y ∷ ys)))
one_asked n gs xs k a x s la lx ea ex =
    let d : drop k gs ≡ a ∷ drop (k + 1) gs =
    rw (add-one k) (drop-cons gs k a la ∙ ap (λ q. q ∷ drop (suc k) gs) (sym ea)) in
    let e : drop k xs ≡ x ∷ drop (k + 1) xs =
    rw (add-one k) (drop-cons xs k x lx ∙ ap (λ q. q ∷ drop (suc k) xs) (sym ex)) in
    ap (λ qs. all_asked (map asked_as qs) (map (operand_in n) (drop k xs)) s) d
    ∙ ap (λ ys. all_asked (asked_as a ∷ map asked_as (drop (k + 1) gs)) (map (operand_in n) ys) s) e

pub asking_more : (n m l : Nodes) (gs : List Asked) (xs : List Operand) (k value : ℕ) (a : Asked) (x : Operand)
    (done : List ℕ) → AreThere (term_count n) xs → Asking n m gs xs k done →
    k < length gs → k < length xs → a ≡ get_or gs k a → x ≡ get_or xs k x →
    answers.Given m l (asked (asked_as a) (operand_in m x)) IsTerm value →
    Asking n l gs xs (k + 1) (done ++ value ∷ [])
asking_more n m l gs xs k value a x done bx h la lx ea ex g =
    let tx : operand_in m x ≡ operand_in n x = operand_kept n m x h.keeps (there_at (term_count n) xs k x bx lx ex) in
    let le : term_count m ≤ term_count l = let y = g.keeps.more_terms in omega arith in
    let was : map (term_in l) done ≡ map (term_in m) done =
    below_kept (term_in l) (term_in m) (term_count m) done h.there (λ j lt. g.keeps.terms j lt) in
    let all : map (term_in l) (done ++ value ∷ []) ≡ map (term_in m) done ++ g.value ∷ [] =
    map-append (term_in l) done (value ∷ []) ∙ ap (λ ds. ds ++ term_in l value ∷ []) was
    ∙ ap (λ v. map (term_in m) done ++ v ∷ []) g.shows.is in
    record {
      keeps = keeps_then n m l h.keeps g.keeps;
      there = below_more (term_count l) done value
          (below_longer (term_count m) (term_count l) done le h.there) g.shows.there;
      is = λ s.
          let v : asked (asked_as a) (operand_in n x) s ≡ Ok (g.value, s) =
          ap (λ y. asked (asked_as a) y s) (sym tx) ∙ g.is s in
          h.is s ∙ ap (λ r. continued r (λ ys. give (map (term_in m) done ++ ys)))
          (one_asked n gs xs k a x s la lx ea ex
          ∙ ap (λ r. continued r (λ y t. continued (asked_from n gs xs (k + 1) t) (λ ys. give (y ∷ ys)))) v)
          ∙ joined (asked_from n gs xs (k + 1) s) g.value (map (term_in m) done)
          ∙ ap (λ ds. continued (asked_from n gs xs (k + 1) s) (λ ys. give (ds ++ ys))) (sym all);
    }

pub asking_refuses : (n m : Nodes) (gs : List Asked) (xs : List Operand) (k : ℕ) (a : Asked) (x : Operand)
    (done : List ℕ) (code : ℕ) (at : Pos) → AreThere (term_count n) xs → Asking n m gs xs k done →
    k < length gs → k < length xs → a ≡ get_or gs k a → x ≡ get_or xs k x →
    Refuses (asked (asked_as a) (operand_in m x)) code at → Refuses (asked_from n gs xs 0) code at
asking_refuses n m gs xs k a x done code at bx h la lx ea ex g s =
    let tx : operand_in m x ≡ operand_in n x = operand_kept n m x h.keeps (there_at (term_count n) xs k x bx lx ex) in
    let v : asked (asked_as a) (operand_in n x) s ≡ Err (record { code = code; place = at }) =
    ap (λ y. asked (asked_as a) y s) (sym tx) ∙ g s in
    h.is s ∙ ap (λ r. continued r (λ ys. give (map (term_in m) done ++ ys)))
    (one_asked n gs xs k a x s la lx ea ex
    ∙ ap (λ r. continued r (λ y t. continued (asked_from n gs xs (k + 1) t) (λ ys. give (y ∷ ys)))) v)

nothing_asked : (n : Nodes) (gs : List Asked) (xs : List Operand) (k : ℕ) (s : State) →
    (length gs ≤ k) ⊎ (length xs ≤ k) → asked_from n gs xs k s ≡ Ok ([], s)
nothing_asked n gs xs k s (inl h) =
    let d : drop k gs ≡ [] = drop_of_length-le gs h in
    ap (λ qs. all_asked (map asked_as qs) (map (operand_in n) (drop k xs)) s) d
nothing_asked n gs xs k s (inr h) =
    let d : drop k xs ≡ [] = drop_of_length-le xs h in
    ap (λ ys. all_asked (map asked_as (drop k gs)) (map (operand_in n) ys) s) d ∙ none (map asked_as (drop k gs))
  where
    none : (ts : List libraries.Asked) → all_asked ts [] s ≡ Ok ([], s)
    none [] = refl
    none (t ∷ ts) = refl

pub asking_end : (n m : Nodes) (gs : List Asked) (xs : List Operand) (k : ℕ) (done : List ℕ) → Asking n m gs xs k done →
    (length gs ≤ k) ⊎ (length xs ≤ k) → (s : State) → asked_from n gs xs 0 s ≡ Ok (map (term_in m) done, s)
asking_end n m gs xs k done h e s =
    h.is s ∙ ap (λ r. continued r (λ ys. give (map (term_in m) done ++ ys))) (nothing_asked n gs xs k s e)
    ∙ ap (λ ys. Ok (ys, s)) (append-nil (map (term_in m) done))

-- ---- the call behind its arguments

as_many : (n : Nodes) (gs : List Asked) (xs : List Operand) →
    (length (map (operand_in n) xs) == length (map asked_as gs)) ≡ (length xs == length gs)
as_many n gs xs =
    let a : length (map (operand_in n) xs) ≡ length xs = simp length-map in
    let b : length (map asked_as gs) ≡ length gs = simp length-map in
    ap (λ k. k == length (map asked_as gs)) a ∙ ap (λ k. length xs == k) b

abbrev pub after_asked : Nodes → List Asked → Given → ℕ → List Operand → Pos → Pos → List Term → Doing meant.Operand
after_asked n gs given k xs p first ys =
    need (length (map (operand_in n) xs) == length (map asked_as gs)) 136 first
    >> gives (term (Library k) (terms ys) (given_type (given_as given) ys) p) first

abbrev pub served_in : Nodes → List Asked → Given → ℕ → List Operand → Pos → Pos → Doing meant.Operand
served_in n gs given k xs p first = library_as (map asked_as gs) (given_as given) k (map (operand_in n) xs) p first

pub served_refuses : (n : Nodes) (gs : List Asked) (given : Given) (k : ℕ) (xs : List Operand) (p first : Pos)
    (code : ℕ) (q : Pos) → Refuses (asked_from n gs xs 0) code q → Refuses (served_in n gs given k xs p first) code q
served_refuses n gs given k xs p first code q h =
    bind_refuses (asked_from n gs xs 0) (after_asked n gs given k xs p first) code q h

pub served_few : (n : Nodes) (gs : List Asked) (given : Given) (k : ℕ) (xs : List Operand) (p first : Pos)
    (v : List Term) (b : Bool) → ((s : State) → asked_from n gs xs 0 s ≡ Ok (v, s)) →
    (length xs == length gs) ≡ b → b ≡ false → Refuses (served_in n gs given k xs p first) 136 first
served_few n gs given k xs p first v b h e d s =
    bind_gives (asked_from n gs xs 0) (after_asked n gs given k xs p first) v s (h s)
    ∙ refused (length (map (operand_in n) xs) == length (map asked_as gs)) 136 first
    (gives (term (Library k) (terms v) (given_type (given_as given) v) p) first) (as_many n gs xs ∙ e ∙ d) s

pub served_done : (n : Nodes) (gs : List Asked) (given : Given) (k : ℕ) (xs : List Operand) (p first : Pos)
    (v : List Term) (b : Bool) → ((s : State) → asked_from n gs xs 0 s ≡ Ok (v, s)) →
    (length xs == length gs) ≡ b → b ≡ true → (s : State) →
    served_in n gs given k xs p first s ≡ Ok
    (record { is = term (Library k) (terms v) (given_type (given_as given) v) p; first = first }, s)
served_done n gs given k xs p first v b h e d s =
    bind_gives (asked_from n gs xs 0) (after_asked n gs given k xs p first) v s (h s)
    ∙ needed (length (map (operand_in n) xs) == length (map asked_as gs)) 136 first
    (gives (term (Library k) (terms v) (given_type (given_as given) v) p) first) s (as_many n gs xs ∙ e ∙ d)

-- ---- the table

-- what the rows of both tables say
abbrev Row : Type 0
Row = List libraries.Asked × libraries.Given

abbrev row_of : Service → Row
row_of f = (takes_as f.takes, given_as f.gives)

abbrev row_meant : libraries.Service → Row
row_meant g = (g.takes, g.gives)

same_rows : map row_of SERVICES ≡ map row_meant libraries.services
unfolding libraries.services
same_rows = refl

found_at : (fs : List Service) (gs : List libraries.Service) (k : ℕ) → map row_of fs ≡ map row_meant gs →
    IsFound (slice_get fs k) (slice_get gs k)
found_at [] [] k e = tt
found_at [] (g ∷ gs) k e = absurd cc
found_at (f ∷ fs) [] k e = absurd cc
found_at (f ∷ fs) (g ∷ gs) zero e =
    let r : row_of f ≡ row_meant g = cc in
    record { takes = sym (ap (λ (x : Row). x.0) r); gives = sym (ap (λ (x : Row). x.1) r) }
found_at (f ∷ fs) (g ∷ gs) (suc k) e = let r : map row_of fs ≡ map row_meant gs = cc in found_at fs gs k r

service_at : (k : ℕ) (o : Option Service) → o ≡ slice_get SERVICES k → IsFound o (slice_get libraries.services k)
service_at k o e = subst (λ x. IsFound x (slice_get libraries.services k)) (sym e)
    (found_at SERVICES libraries.services k same_rows)

not_found : (o : Option libraries.Service) → IsFound None o → o ≡ None
not_found None h = refl
not_found (Some g) h = absurd h

called_as : (o : Option libraries.Service) (f : Service) (ts : List libraries.Asked) (k : ℕ) (xs : List meant.Operand)
    (p first : Pos) → IsFound (Some f) o → ts ≡ takes_as f.takes →
    library_call o k xs p first ≡ library_as ts (given_as f.gives) k xs p first
called_as None f ts k xs p first h e = absurd h
called_as (Some g) f ts k xs p first h e =
    ap (λ us. library_as us g.gives k xs p first) (h.takes ∙ sym e) ∙ ap (λ u. library_as ts u k xs p first) h.gives

-- a number without a service
pub no_service : (k : ℕ) (xs : List meant.Operand) (p first : Pos) → None ≡ slice_get SERVICES k →
    Refuses (library_call (slice_get libraries.services k) k xs p first) 133 first
no_service k xs p first e s = ap (λ o. library_call o k xs p first s) (not_found _ (service_at k None e))

pub service_called : (k : ℕ) (f : Service) (ts : List libraries.Asked) (xs : List meant.Operand) (p first : Pos) →
    Some f ≡ slice_get SERVICES k → ts ≡ takes_as f.takes →
    library_call (slice_get libraries.services k) k xs p first ≡ library_as ts (given_as f.gives) k xs p first
service_called k f ts xs p first e d =
    called_as (slice_get libraries.services k) f ts k xs p first (service_at k (Some f) e) d

-- expressions that stood before
pub terms_kept : (m l : Nodes) (ks : List ℕ) → Keeps m l → AreBelow (term_count m) ks →
    map (term_in l) ks ≡ map (term_in m) ks
terms_kept m l ks k h = below_kept (term_in l) (term_in m) (term_count m) ks h k.terms

-- an argument that is assigned to a type that is made first
pub assigned_to : (n m l : Nodes) (of : ℕ) (t : Ty) (x : Operand) (r : Result ℕ Refusal) → x.node < term_count n →
    HasType n m of t → Answers m l (assigned (type_in m of) (operand_in m x)) IsTerm r →
    Answers n l (assigned t (operand_in n x)) IsTerm r
assigned_to n m l of t x r lt h a =
    answers_after n m l _ IsTerm r h.keeps (answers_is m l _ _ IsTerm r
    (ap (λ u. assigned u (operand_in n x)) (sym h.is.is)
    ∙ ap (assigned (type_in m of)) (sym (operand_kept n m x h.keeps lt))) a)
