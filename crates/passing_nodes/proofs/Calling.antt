-- Hidden locals, and arguments that go by pointers.
use Rattle.std.proofs.Common.{◌≡◌, ℕ, ◌+◌, ◌<◌, true, false, List, [], ◌∷◌, ◌++◌, length, get_or, map, Some, None}
use Rattle.std.proofs.Common.{refl, sym, ap, subst, ◌∙◌, length-append, append_assoc}
use Rattle.std.proofs.lemmas.List.{append-nil, map-append, length-map}
use Rattle.ck_base.specs.declared.positions.Pos.{Pos}
use Rattle.c_tree.specs.declared.typed.Expr.{Expr}
use Rattle.c_tree.specs.declared.typed.ExprKind.TheVariants as exprs
use Rattle.c_tree.specs.declared.typed.VarDef.{VarDef}
use Rattle.c_tree.specs.Types.{Ty, Pointer, bare, is_tagged}
use Rattle.c_tree.specs.Terms as tree
use Rattle.c_tree.specs.Terms.{Variable, Term, terms, term, leaf, step, join}
use Rattle.c_tree.specs.Views.{type_at, term_at, variable_of, operands}
use Rattle.c_tree.specs.Passed.{Names, Passing, by_pointer, hidden, hidden_for, by_address}
use Rattle.c_copy.specs.Copying.{Extends, expr_shape, terms_in}
use Rattle.passing_nodes.specs.declared.nodes.Source.{Source}
use Rattle.passing_nodes.specs.declared.nodes.Made.{Made}
use Rattle.passing_nodes.specs.declared.types.Types.{Types}
use Rattle.passing_nodes.specs.Named.{name_in}
use Rattle.passing_nodes.specs.Ordered.{VarsThere, TakesIn, Takes}
use Rattle.passing_nodes.specs.Steps.{written_type, Fits, HasTerm, Hides, IsHidden}
use Rattle.passing_nodes.proofs.Tagging.{tagged_goes, tagged_same, tagged_bare}
use Rattle.passing_nodes.proofs.Ordering.{expr_first, vars_push, in_push}
use Rattle.passing_nodes.proofs.Trees.{term_more, term_end}

pub hides_none : (s : Source) (a b : Made) → b.vars ≡ a.vars → Hides s a b (λ names. [])
hides_none s a b q = record {
  are = λ ts e f. ap (λ vs. map (variable_of ts) vs.items) q
      ∙ sym (append-nil (map (variable_of ts) a.vars.items));
  typed = λ t h. subst (λ vs. VarsThere (length s.types.now.list.items) vs.items) (sym q) h;
}

pub hides_then : (s : Source) (a b c : Made) (f g : Names → List Variable) → Hides s a b f → Hides s b c g →
    Hides s a c (λ names. f names ++ g names)
hides_then s a b c f g h i = record {
  are = λ ts e fits. i.are ts e fits ∙ ap (λ vs. vs ++ g e.names) (h.are ts e fits)
      ∙ append_assoc (map (variable_of ts) a.vars.items) (f e.names) (g e.names);
  typed = λ t v. i.typed t (h.typed t v);
}

-- what else was made does not matter
pub hides_vars : (s : Source) (a b c d : Made) (f g : Names → List Variable) → c.vars ≡ a.vars → d.vars ≡ b.vars →
    ((names : Names) → f names ≡ g names) → Hides s a b f → Hides s c d g
hides_vars s a b c d f g q r e h = record {
  are = λ ts p fits.
      ap (λ vs. map (variable_of ts) vs.items) r ∙ h.are ts p fits
      ∙ ap (λ vs. map (variable_of ts) a.vars.items ++ vs) (e p.names)
      ∙ ap (λ vs. map (variable_of ts) vs.items ++ g p.names) (sym q);
  typed = λ t v.
      subst (λ vs. VarsThere (length s.types.now.list.items) vs.items) (sym r)
      (h.typed t (subst (λ vs. VarsThere (length s.types.now.list.items) vs.items) q v));
}

-- how many variables there are then
pub hides_count : (s : Source) (a b : Made) (f : Names → List Variable) (ts : List Ty) (e : Passing) → Hides s a b f →
    Fits s ts e → length b.vars.items ≡ length a.vars.items + length (f e.names)
hides_count s a b f ts e h fits =
    sym (length-map b.vars.items (variable_of ts)) ∙ ap length (h.are ts e fits)
    ∙ length-append (map (variable_of ts) a.vars.items) (f e.names)
    ∙ ap (λ n. n + length (f e.names)) (length-map a.vars.items (variable_of ts))

not_hidden : (names : Names) (p : Pos) (t : Ty) → by_pointer t ≡ false → hidden_for names p t ≡ []
not_hidden names p t e = rw e refl

is_hidden : (names : Names) (p : Pos) (t : Ty) → by_pointer t ≡ true → hidden_for names p t ≡ hidden names p t ∷ []
is_hidden names p t e = rw e refl

pub hides_plainly : (s : Source) (a b : Made) (of : ℕ) (p : Pos) → IsHidden s of None → b.vars ≡ a.vars →
    Hides s a b (λ names. hidden_for names p (written_type s of))
hides_plainly s a b of p h q =
    hides_vars s a b a b (λ names. []) (λ names. hidden_for names p (written_type s of)) refl refl
    (λ names. sym (not_hidden names p (written_type s of) h)) (hides_none s a b q)

-- the type that stands for a struct or union is itself
pub number_same : (s : Source) (ts : List Ty) (e : Passing) (t n : ℕ) → Fits s ts e →
    is_tagged (written_type s t) ≡ true → get_or s.types.now.numbers.items t 0 ≡ n →
    type_at ts n ≡ written_type s t
number_same s ts e t n fits b g = fits.types.numbers t n g ∙ tagged_same (written_type s t) b

pub pointer_same : (s : Source) (ts : List Ty) (e : Passing) (t n : ℕ) → Fits s ts e →
    is_tagged (written_type s t) ≡ true → get_or s.types.now.pointers.items t 0 ≡ n →
    type_at ts n ≡ Pointer (written_type s t)
pointer_same s ts e t n fits b g =
    fits.types.pointers t n g (tagged_goes (written_type s t) b) ∙ ap Pointer (tagged_bare (written_type s t) b)

-- the type of a hidden local is a struct or union
pub hidden_tagged : (s : Source) (of t : ℕ) → IsHidden s of (Some t) → is_tagged (written_type s t) ≡ true
hidden_tagged s of t h = ap is_tagged h.1 ∙ h.0

variable_same : (s : Source) (ts : List Ty) (e : Passing) (of t n : ℕ) (p : Pos) (v : VarDef) → Fits s ts e →
    IsHidden s of (Some t) → get_or s.types.now.numbers.items t 0 ≡ n →
    v ≡ record { name = name_in s.names.now p; pos = p; of = n; simple = false } →
    variable_of ts v ≡ hidden e.names p (written_type s of)
variable_same s ts e of t n p v fits h g q =
    let is : type_at ts n ≡ bare (written_type s of) = number_same s ts e t n fits (hidden_tagged s of t h) g ∙ h.1 in
    let name : name_in s.names.now p ≡ e.names p = sym (fits.names p) in
    rw (q, is, name) refl

pub hides_one : (s : Source) (a b : Made) (of t n : ℕ) (p : Pos) (v : VarDef) → IsHidden s of (Some t) →
    get_or s.types.now.numbers.items t 0 ≡ n →
    v ≡ record { name = name_in s.names.now p; pos = p; of = n; simple = false } →
    b.vars.items ≡ a.vars.items ++ v ∷ [] → Hides s a b (λ names. hidden_for names p (written_type s of))
hides_one s a b of t n p v h g q r = record {
  are = λ ts e fits.
      ap (map (variable_of ts)) r ∙ map-append (variable_of ts) a.vars.items (v ∷ [])
      ∙ ap (λ x. map (variable_of ts) a.vars.items ++ x ∷ []) (variable_same s ts e of t n p v fits h g q)
      ∙ ap (λ vs. map (variable_of ts) a.vars.items ++ vs) (sym (is_hidden e.names p (written_type s of) h.0));
  typed = λ w vs.
      vars_push (length s.types.now.list.items) a.vars.items b.vars.items v vs
      (subst (λ (y : VarDef). y.of < length s.types.now.list.items) (sym q) (w.numbers t n g)) r;
}

-- the variable of a number, at the end of a list
pub var_made : (ts : List Ty) (es fs : List Expr) (h of : ℕ) (p : Pos) (j : ℕ) →
    fs ≡ es ++ record { kind = exprs.Var h; of = of; pos = p } ∷ [] → j ≡ length es →
    HasTerm ts fs j (leaf (tree.Var h) (type_at ts of) p)
var_made ts es fs h of p j q r = term_end ts es fs (record { kind = exprs.Var h; of = of; pos = p }) j q r

pub step_made : (ts : List Ty) (es fs : List Expr) (d : Expr) (a j : ℕ) (x : Term) → fs ≡ es ++ d ∷ [] → j ≡ length es →
    operands d.kind ≡ a ∷ [] → HasTerm ts es a x →
    HasTerm ts fs j (step (expr_shape ts d.kind) x (type_at ts d.of) d.pos)
step_made ts es fs d a j x q r o h =
    let t = term_end ts es fs d j q r in
    record {
      there = t.there;
      is = t.is
          ∙ ap (λ ks. term (expr_shape ts d.kind) (terms (map (term_at (terms_in ts es)) ks)) (type_at ts d.of) d.pos) o
          ∙ ap (λ y. term (expr_shape ts d.kind) (terms (y ∷ [])) (type_at ts d.of) d.pos) h.is;
    }

pub join_made : (ts : List Ty) (es fs : List Expr) (d : Expr) (a b j : ℕ) (x y : Term) → fs ≡ es ++ d ∷ [] →
    j ≡ length es → operands d.kind ≡ a ∷ b ∷ [] → HasTerm ts es a x → HasTerm ts es b y →
    HasTerm ts fs j (join (expr_shape ts d.kind) x y (type_at ts d.of) d.pos)
join_made ts es fs d a b j x y q r o h i =
    let t = term_end ts es fs d j q r in
    record {
      there = t.there;
      is =
          t.is ∙ ap (λ ks. term (expr_shape ts d.kind) (terms (map (term_at (terms_in ts es)) ks))
          (type_at ts d.of) d.pos) o
          ∙ ap (λ z. term (expr_shape ts d.kind) (terms (z ∷ term_at (terms_in ts es) b ∷ [])) (type_at ts d.of) d.pos)
          h.is
          ∙ ap (λ z. term (expr_shape ts d.kind) (terms (x ∷ z ∷ [])) (type_at ts d.of) d.pos) i.is;
    }

-- an argument by a pointer: a value, the hidden local's place, the assignment, the address, and both together
pub address_passed : (s : Source) (ts : List Ty) (e : Passing) (a b c d f : List Expr) (h value t n m : ℕ) (p : Pos)
    (k l i j : ℕ) (y : Term) → Fits s ts e → is_tagged (written_type s t) ≡ true →
    get_or s.types.now.numbers.items t 0 ≡ n → get_or s.types.now.pointers.items t 0 ≡ m →
    HasTerm ts a value y →
    b ≡ a ++ record { kind = exprs.Var h; of = n; pos = p } ∷ [] → k ≡ length a →
    c ≡ b ++ record { kind = exprs.Assign k value; of = n; pos = p } ∷ [] → l ≡ length b →
    Extends c d → HasTerm ts d i (step tree.Address (leaf (tree.Var h) (type_at ts n) p) (type_at ts m) p) →
    f ≡ d ++ record { kind = exprs.Comma l i; of = m; pos = p } ∷ [] → j ≡ length d →
    HasTerm ts f j (by_address h y (written_type s t) p)
address_passed s ts e a b c d f h value t n m p k l i j y fits g u v hv bq kq cq lq x ha fq jq =
    let tn = number_same s ts e t n fits g u in
    let tm = pointer_same s ts e t m fits g v in
    let place = var_made ts a b h n p k bq kq in
    let value-b = term_more ts a b value y (_, bq) hv in
    let assign = join_made ts b c (record { kind = exprs.Assign k value; of = n; pos = p }) k value l
    (leaf (tree.Var h) (type_at ts n) p) y cq lq refl place value-b in
    let assign-d = term_more ts c d l (join tree.Assign (leaf (tree.Var h) (type_at ts n) p) y (type_at ts n) p) x
    assign in
    let comma =
    join_made ts d f (record { kind = exprs.Comma l i; of = m; pos = p }) l i j
    (join tree.Assign (leaf (tree.Var h) (type_at ts n) p) y (type_at ts n) p)
    (step tree.Address (leaf (tree.Var h) (type_at ts n) p) (type_at ts m) p) fq jq refl assign-d ha in
    record { there = comma.there; is = comma.is ∙ rw (tn, tm) refl }

pub address_ordered : (s : Types) (a b c d f : Made) (h value t n m : ℕ) (p : Pos) (k l i j : ℕ) →
    get_or s.numbers.items t 0 ≡ n → get_or s.pointers.items t 0 ≡ m →
    b.exprs.items ≡ a.exprs.items ++ record { kind = exprs.Var h; of = n; pos = p } ∷ [] →
    b ≡ record a { exprs = b.exprs } → k ≡ length a.exprs.items →
    c.exprs.items ≡ b.exprs.items ++ record { kind = exprs.Assign k value; of = n; pos = p } ∷ [] →
    c ≡ record b { exprs = c.exprs } → l ≡ length b.exprs.items →
    ((w : ℕ) → m < w → n < w → TakesIn w c d [] [] (i ∷ []) []) →
    f.exprs.items ≡ d.exprs.items ++ record { kind = exprs.Comma l i; of = m; pos = p } ∷ [] →
    f ≡ record d { exprs = f.exprs } → j ≡ length d.exprs.items → Takes s a f (value ∷ []) [] (j ∷ []) []
address_ordered s a b c d f h value t n m p k l i j u v bq br kq cq cr lq x fq fr jq = λ z us vs o.
    let w = length s.list.items in
    let tn = z.numbers t n u in
    let tm = z.pointers t m v in
    let one = in_push w a b (record { kind = exprs.Var h; of = n; pos = p }) k [] bq
    (ap (λ (y : Made). y.stmts.items) br) kq tn refl (value ∷ us) vs o in
    let two = in_push w b c (record { kind = exprs.Assign k value; of = n; pos = p }) l (k ∷ value ∷ []) cq
    (ap (λ (y : Made). y.stmts.items) cr) lq tn refl us vs one in
    let three = expr_first w d.exprs.items d.stmts.items l (i ∷ []) us vs (x w tm tn (l ∷ us) vs two) in
    in_push w d f (record { kind = exprs.Comma l i; of = m; pos = p }) j (l ∷ i ∷ []) fq
    (ap (λ (y : Made). y.stmts.items) fr) jq tm refl us vs three
