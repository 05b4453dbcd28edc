-- What stands at a number.
use Rattle.std.proofs.Common.{◌≡◌, ℕ, zero, suc, ◌+◌, ◌<◌, ◌≤◌, List, [], ◌∷◌, ◌++◌, length, get_or, map, Some, refl}
use Rattle.std.proofs.Common.{sym, ap, ◌∙◌, arith, length-append}
use Rattle.std.specs.Prelude.{slice_get, slice_index_or}
use Rattle.std.proofs.Math.Seq.{get_or-append_seam}
use Rattle.std.proofs.Math.ListN.{get_or-append}
use Rattle.std.proofs.lemmas.Option.{slice_get-get_or, same_Some}
use Rattle.std.proofs.lemmas.List.{length-map}
use Rattle.ck_base.specs.declared.positions.Pos.{Pos}
use Rattle.c_tree.specs.declared.typed.CType.{CType}
use Rattle.c_tree.specs.declared.typed.Expr.{Expr}
use Rattle.c_tree.specs.declared.typed.ExprKind.{ExprKind}
use Rattle.c_tree.specs.declared.typed.ExprKind.TheVariants as exprs
use Rattle.c_tree.specs.declared.typed.CType.TheVariants as ctypes
use Rattle.c_tree.specs.Types.{Ty, Void, Function, Tys}
use Rattle.c_tree.specs.Terms.{Term, type_of, pos_of}
use Rattle.c_tree.specs.Views.{grow, type_from, types_of, tys, kind_term, expr_from, terms_of, no_term}
use Rattle.c_tree.proofs.Forest.{forest_reads}
use Rattle.c_interner.proofs.Growing.{grow-front}
use Rattle.c_node_facts.specs.declared.classes.Class.{Class}
use Rattle.c_node_facts.specs.declared.facts.Fact.{Fact}
use Rattle.c_expressions.specs.declared.nodes.Nodes.{Nodes}
use Rattle.c_node_facts.specs.Classes.{class_type, params_of}
use Rattle.c_expressions.specs.Classes.{PartIsThere}
use Rattle.c_node_facts.specs.Facts.{fact_of}
use Rattle.c_expressions.specs.Nodes.{IsWhole, IsClass, IsType, Sees, type_in, term_in, type_count, term_count}
use Rattle.c_expressions.proofs.Growth.{length-terms_of}

-- ---- a type of the list

pub record Shown (trees : List Ty) (k : ℕ) (c : CType) : Type 0 where
  pub seen : ℕ → Ty
  pub before : (j : ℕ) → j < k → seen j ≡ get_or trees j Void
  pub past : (j : ℕ) → k ≤ j → seen j ≡ Void
  pub is : get_or trees k Void ≡ type_from c seen

past_end : (ts : List Ty) (j : ℕ) → length ts ≤ j → get_or ts j Void ≡ Void
past_end [] j h = refl
past_end (t ∷ ts) zero h = absurd (omega arith)
past_end (t ∷ ts) (suc j) h = past_end ts j (omega arith)

shown_from : (cs : List CType) (ts : List Ty) (k : ℕ) (c : CType) → slice_get cs k ≡ Some c →
    Shown (grow type_from Void cs ts) (length ts + k) c
unfolding grow
shown_from [] ts k c e = absurd cc
shown_from (x ∷ cs) ts zero c e =
    let v = type_from x (λ j. slice_index_or ts j Void) in
    let lt : length ts < length (ts ++ v ∷ []) = omega (arith, length-append ts (v ∷ [])) in
    let z : length ts + 0 ≡ length ts = omega arith in
    let at : get_or (grow type_from Void cs (ts ++ v ∷ [])) (length ts) Void ≡ v =
    grow-front type_from Void cs (ts ++ v ∷ []) (length ts) lt ∙ get_or-append_seam ts v [] Void in
    record {
      seen = λ j. get_or ts j Void;
      before = λ j h. sym (grow-front type_from Void cs (ts ++ v ∷ []) j (omega (arith, length-append ts (v ∷ [])))
          ∙ get_or-append ts (v ∷ []) Void j (omega arith));
      past = λ j h. past_end ts j (omega arith);
      is = rw z (at ∙ ap (λ m. type_from m (λ j. slice_index_or ts j Void)) (same_Some x c e));
    }
shown_from (x ∷ cs) ts (suc k) c e =
    let v = type_from x (λ j. slice_index_or ts j Void) in
    let r = shown_from cs (ts ++ v ∷ []) k c e in
    let z : length ts + suc k ≡ length (ts ++ v ∷ []) + k = omega (arith, length-append ts (v ∷ [])) in
    rw z r

-- the item that an index reads
pub item_at : {A : Type 0} (xs list : List A) (k : ℕ) (x d : A) → list ≡ xs → k < length xs → x ≡ get_or list k d →
    slice_get xs k ≡ Some x
item_at xs list k x d e lt h = slice_get-get_or xs k d lt ∙ ap Some (ap (λ ys. get_or ys k d) (sym e) ∙ sym h)

pub class_is : (n : Nodes) (k : ℕ) (x : CType) (raw c : Class) → k < type_count n → slice_get n.p.types k ≡ Some x →
    ((go : ℕ → Ty) → type_from x go ≡ class_type raw go (tys (map go (params_of x)))) →
    ((seen : ℕ → Ty) (ps : Tys) → Sees n k seen → class_type raw seen ps ≡ class_type c (type_in n) ps) →
    PartIsThere c (type_count n) → IsClass n k c
class_is n k x raw c lt at h same there =
    let z : 0 + k ≡ k = omega arith in
    let r : Shown (types_of n.p.types) k x = rw (← z) (shown_from n.p.types [] k x at) in
    record {
      params = tys (map r.seen (params_of x));
      is = r.is ∙ h r.seen ∙ same r.seen (tys (map r.seen (params_of x))) (record { before = r.before; past = r.past });
      there = there;
    }

params_from : (x : CType) (seen : ℕ → Ty) (r : Ty) (qs : Tys) → type_from x seen ≡ Function r qs →
    tys (map seen (params_of x)) ≡ qs
params_from (ctypes.Function g us) seen r qs e = cc
params_from ctypes.Void seen r qs e = absurd cc
params_from _ seen r qs e = absurd cc

pub params_are : (n : Nodes) (k : ℕ) (x : CType) (numbers ps : List ℕ) → slice_get n.p.types k ≡ Some x →
    numbers ≡ params_of x → ((seen : ℕ → Ty) → Sees n k seen → map (type_in n) ps ≡ map seen numbers) →
    (r : Ty) (qs : Tys) → type_in n k ≡ Function r qs → tys (map (type_in n) ps) ≡ qs
params_are n k x numbers ps at e h r qs f =
    let z : 0 + k ≡ k = omega arith in
    let s : Shown (types_of n.p.types) k x = rw (← z) (shown_from n.p.types [] k x at) in
    ap tys (h s.seen (record { before = s.before; past = s.past }) ∙ ap (map s.seen) e)
    ∙ params_from x s.seen r qs (sym s.is ∙ f)

-- ---- an expression of the list

kind_shows : (ts : List Ty) (k : ExprKind) (t : Ty) (p : Pos) (go : ℕ → Term) →
    (type_of (kind_term ts k t p go) ≡ t) × (pos_of (kind_term ts k t p go) ≡ p)
kind_shows ts (exprs.Constant n) t p go = (refl, refl)
kind_shows ts _ t p go = (refl, refl)

pub expr_shows : (n : Nodes) (k : ℕ) (x : Expr) → slice_get n.p.exprs k ≡ Some x →
    (type_of (term_in n k) ≡ type_in n x.of) × (pos_of (term_in n k) ≡ x.pos)
expr_shows n k x at =
    let r = forest_reads (expr_from (types_of n.p.types)) no_term n.p.exprs k x at in
    let h = kind_shows (types_of n.p.types) x.kind (type_in n x.of) x.pos (λ j. get_or r.seen j no_term) in
    (ap type_of r.is ∙ h.0, ap pos_of r.is ∙ h.1)

pub of_is : (n : Nodes) (k : ℕ) (x : Expr) → IsWhole n → slice_get n.p.exprs k ≡ Some x →
    IsType n x.of (type_of (term_in n k))
of_is n k x w at = record { there = let t = w.typed k x at in t.of; is = sym (expr_shows n k x at).0 }

pub length-facts : (n : Nodes) → IsWhole n → length n.facts.items ≡ term_count n
length-facts n w = ap length w.facts ∙ (simp length-map) ∙ length-terms_of n.p

get_or-map_at : {A B : Type 0} (f : A → B) (xs : List A) (k : ℕ) (a : A) (b : B) → k < length xs →
    get_or (map f xs) k b ≡ f (get_or xs k a)
get_or-map_at f [] k a b h = absurd (omega arith)
get_or-map_at f (x ∷ xs) zero a b h = refl
get_or-map_at f (x ∷ xs) (suc k) a b h = get_or-map_at f xs k a b (omega arith)

pub fact_is : (n : Nodes) (k : ℕ) (x : Fact) → IsWhole n → k < term_count n → x ≡ get_or n.facts.items k x →
    x ≡ fact_of (term_in n k)
fact_is n k x w lt e =
    let l : k < length (terms_of n.p) = rw (length-terms_of n.p) lt in
    e ∙ ap (λ fs. get_or fs k x) w.facts ∙ get_or-map_at fact_of (terms_of n.p) k no_term x l
