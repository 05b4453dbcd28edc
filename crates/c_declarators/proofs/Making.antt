-- Types that declarators make, step by step.
use Rattle.std.proofs.Common.{◌≡◌, ℕ, zero, suc, ◌+◌, ◌<◌, ◌≤◌, ◌-◌, List, [], ◌∷◌, ◌++◌, length, map, take, drop}
use Rattle.std.proofs.Common.{get_or, drop-cons, All, refl, sym, ap, ◌∙◌, arith}
use Rattle.std.specs.Prelude.{slice_index_or, Bool, not, ◌||◌}
use Rattle.std.proofs.lemmas.List.{take_more, drop_all}
use Rattle.std.proofs.lemmas.List.Elements.{All-push}
use Rattle.c_tree.specs.Types.{Ty, Function, bare, in_signature}
use Rattle.c_tree.specs.Views.{tys}
use Rattle.c_tree.specs.Scopes.{State}
use Rattle.c_tree.specs.Declarators as meant_types
use Rattle.c_tree.specs.Declarators.{plainly, is_given}
use Rattle.c_expressions.specs.declared.nodes.Nodes.{Nodes}
use Rattle.c_expressions.specs.Nodes.{IsWhole, Keeps, IsType, HasType, type_in, type_count}
use Rattle.c_expressions.proofs.Keeping.{keeps_same, keeps_then}
use Rattle.c_declarators.specs.declared.parts.Param.{Param}
use Rattle.c_declarators.specs.declared.parts.Wrap.{Wrap}
use Rattle.c_declarators.specs.declared.parts.Wrap.TheVariants.{Gives}
use Rattle.c_declarators.specs.declared.parts.Formed.{Formed}
use Rattle.c_declarators.specs.Forming.{Makes, MakesOf, HasTypes, ParamIsThere, WrapIsThere, signature_types, formed_in}
use Rattle.c_declarators.specs.Forming.{gives_on, made_on, all_on}

-- ---- lists of types

pub All_weaker : {A : Type 0} (P Q : A → Type 0) (xs : List A) → ((x : A) → P x → Q x) → All P xs → All Q xs
All_weaker P Q xs f h k d lt = f (slice_index_or xs k d) (h k d lt)

types_kept : (n m : Nodes) (ks : List ℕ) → Keeps n m → All (λ k. k < type_count n) ks →
    map (type_in m) ks ≡ map (type_in n) ks
types_kept n m [] k h = refl
types_kept n m (x ∷ xs) k h =
    ap (λ t. t ∷ map (type_in m) xs) (k.types x (h 0 x (omega arith)))
    ∙ ap (λ ts. type_in n x ∷ ts) (types_kept n m xs k (λ i d lt. h (suc i) d (omega arith)))

map-push : {A B : Type 0} (f : A → B) (xs : List A) (y : A) → map f (xs ++ y ∷ []) ≡ map f xs ++ f y ∷ []
map-push f [] y = refl
map-push f (x ∷ xs) y = ap (λ zs. f x ∷ zs) (map-push f xs y)

pub no_types_yet : (n : Nodes) → IsWhole n → HasTypes n n [] []
no_types_yet n w = record {
  keeps = keeps_same n w;
  are = record { there = λ k d lt. absurd (omega arith); are = refl };
}

pub one_type_more : (a b c : Nodes) (ks : List ℕ) (ts : List Ty) (k : ℕ) (t : Ty) → HasTypes a b ks ts →
    HasType b c k t → HasTypes a c (ks ++ k ∷ []) (ts ++ t ∷ [])
one_type_more a b c ks ts k t h g = record {
  keeps = keeps_then a b c h.keeps g.keeps;
  are = record {
    there = All-push (λ j. j < type_count c) ks k
        (All_weaker (λ j. j < type_count b) (λ j. j < type_count c) ks
        (λ j lt. let m : type_count b ≤ type_count c = g.keeps.more_types in omega arith) h.are.there) g.is.there;
    are = map-push (type_in c) ks k
        ∙ ap (λ us. us ++ type_in c k ∷ []) (types_kept b c ks g.keeps h.are.there ∙ h.are.are)
        ∙ ap (λ u. ts ++ u ∷ []) g.is.is;
  };
}

-- ---- the types of parameters

signature_kept : (a b : Nodes) (ps : List Param) → Keeps a b → All (ParamIsThere a) ps →
    signature_types b ps ≡ signature_types a ps
signature_kept a b [] k h = refl
signature_kept a b (p ∷ ps) k h =
    ap (λ t. in_signature t ∷ signature_types b ps) (k.types p.of (h 0 p (omega arith)))
    ∙ ap (λ ts. in_signature (type_in a p.of) ∷ ts) (signature_kept a b ps k (λ i d lt. h (suc i) d (omega arith)))

pub param_more : (a b c : Nodes) (ks : List ℕ) (ps : List Param) (i k : ℕ) (d : Param) → i < length ps →
    All (ParamIsThere a) ps → HasTypes a b ks (signature_types a (take i ps)) →
    HasType b c k (in_signature (type_in b (get_or ps i d).of)) →
    HasTypes a c (ks ++ k ∷ []) (signature_types a (take (i + 1) ps))
param_more a b c ks ps i k d lt all h g =
    let p : Param = get_or ps i d in
    let e : signature_types a (take (i + 1) ps) ≡ signature_types a (take i ps) ++ in_signature (type_in b p.of) ∷ [] =
    ap (signature_types a) (take_more ps i d lt) ∙ map-push (λ (q : Param). in_signature (type_in a q.of)) (take i ps) p
    ∙ ap (λ t. signature_types a (take i ps) ++ in_signature t ∷ []) (sym (h.keeps.types p.of (all i d lt))) in
    rw e (one_type_more a b c ks (signature_types a (take i ps)) k (in_signature (type_in b p.of)) h g)

-- ---- what one part makes

pub function_made : (a b c : Nodes) (f : Formed) (ks : List ℕ) (ts : List Ty) (result of : ℕ) (given m : Bool) →
    IsType a result (bare (type_in a f.of)) → HasTypes a b ks ts →
    HasType b c of (Function (type_in b result) (tys (map (type_in b) ks))) →
    given ≡ is_given (type_in a f.of) → m ≡ (f.faults.misfits || not given) →
    Makes a c f (record {
      of = of;
      faults = record { lacks = f.faults.lacks; misfits = m; too_large = f.faults.too_large };
    })
    (λ s x. gives_on (tys ts) x)
function_made a b c f ks ts result of given m t h g q e =
    let made : type_in c of ≡ Function (bare (type_in a f.of)) (tys ts) =
    g.is.is ∙ ap (λ u. Function u (tys (map (type_in b) ks))) (h.keeps.types result t.there ∙ t.is)
    ∙ ap (λ us. Function (bare (type_in a f.of)) (tys us)) h.are.are in
    let r : m ≡ (f.faults.misfits || not (is_given (type_in a f.of))) = e ∙ ap (λ z. f.faults.misfits || not z) q in
    record {
      keeps = keeps_then a b c h.keeps g.keeps;
      there = g.is.there;
      is = λ s k. λ i. record { of = made i; lacks = f.faults.lacks; misfits = r i; too_large = f.faults.too_large };
    }

-- ---- what all parts make

made_kept : (s : State) (a b : Nodes) (w : Wrap) (x : meant_types.Formed) → Keeps a b → WrapIsThere a w →
    made_on s b w x ≡ made_on s a w x
made_kept s a b (Gives p) x k h = ap (λ ts. gives_on (tys ts) x) (signature_kept a b p.params.items k h)
made_kept s a b _ x k h = refl

pub nothing_made : (a : Nodes) (of : ℕ) (ws : List Wrap) (f : Formed) → IsWhole a → of < type_count a → f.of ≡ of →
    ((n : Nodes) → formed_in n f ≡ plainly (type_in n of)) →
    MakesOf a a f (λ s. all_on s a (drop (length ws) ws) (plainly (type_in a of)))
nothing_made a of ws f w lt e h = record {
  keeps = keeps_same a w;
  there = rw e lt;
  is = λ s t. h a ∙ ap (λ vs. all_on s a vs (plainly (type_in a of))) (sym (drop_all (length ws) ws (omega arith)));
}

pub made_more : (a b c : Nodes) (ws : List Wrap) (left : ℕ) (w : Wrap) (f g : Formed) (x : meant_types.Formed) →
    0 < left → left ≤ length ws → w ≡ get_or ws (left - 1) w → All (WrapIsThere a) ws →
    MakesOf a b f (λ s. all_on s a (drop left ws) x) → Makes b c f g (λ s y. made_on s b w y) →
    MakesOf a c g (λ s. all_on s a (drop (left - 1) ws) x)
made_more a b c ws zero w f g x p le e all h m = absurd (omega arith)
made_more a b c ws (suc left) w f g x p le e all h m =
    let z : suc left - 1 ≡ left = omega arith in
    let lt : left < length ws = omega arith in
    let i : get_or ws left w ≡ w = sym (rw z at e) in
    let d : drop left ws ≡ w ∷ drop (suc left) ws = drop-cons ws left w lt ∙ ap (λ v. v ∷ drop (suc left) ws) i in
    let there : WrapIsThere a w = rw i at (all left w lt) in
    record {
      keeps = keeps_then a b c h.keeps m.keeps;
      there = m.there;
      is = λ s t. m.is s (h.keeps.stands s t) ∙ made_kept s a b w (formed_in b f) h.keeps there
          ∙ ap (made_on s a w) (h.is s t) ∙ rw (z, d) refl;
    }
