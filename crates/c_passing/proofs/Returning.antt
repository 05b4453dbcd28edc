-- Parameters that came by pointers, and are copied.
use Rattle.std.proofs.Common.{◌≡◌, ℕ, ◌+◌, ◌<◌, Bool, true, false, cond, List, [], ◌∷◌, ◌++◌, length, get_or, take}
use Rattle.std.proofs.Common.{map, refl, sym, ap, subst, ◌∙◌, arith, length-append, append_assoc}
use Rattle.std.specs.Prelude.{flat_map}
use Rattle.std.proofs.lemmas.List.{append-nil, map-append, length-map, take_more, length-take-le}
use Rattle.c_tree.specs.declared.typed.ExprKind.TheVariants as exprs
use Rattle.c_tree.specs.declared.typed.StmtKind.TheVariants as stmts
use Rattle.c_tree.specs.declared.typed.VarDef.{VarDef}
use Rattle.c_tree.specs.Types.{bare, is_tagged}
use Rattle.c_tree.specs.Terms as tree
use Rattle.c_tree.specs.Terms.{step, Action, Variable}
use Rattle.c_tree.specs.Passed.{by_pointer, behind, copied_param, param_copy}
use Rattle.c_copy.specs.Copying.{Extends}
use Rattle.c_copy.proofs.Copies.{extends_same, extends_then, extends_push}
use Rattle.passing_steps.specs.Source.{Source}
use Rattle.passing_steps.specs.Made.{Made}
use Rattle.c_passing.specs.Lists.{copies_of}
use Rattle.c_passing.specs.Routines.{source_variable, IsParamCopy, AreParamCopies}
use Rattle.passing_steps.specs.Numbered.{IsBare}
use Rattle.passing_steps.specs.Steps.{written_type, HasTerm, Makes}
use Rattle.passing_steps.proofs.Calling.{number_same, step_made}
use Rattle.passing_steps.proofs.Ordering.{in_push, in_stmt, in_stmts}
use Rattle.passing_steps.proofs.Trees.{action_made, no_actions_have, actions_more, actions_push}
use Rattle.passing_steps.proofs.Returning.{pointed, behind_made, one_has}

-- ---- a parameter is copied

pub record CopiesParam (s : Source) (old a b new : Made) (v : VarDef) (from to t n m place value j : ℕ) : Type 0 where
  pub bare : IsBare s.program.now.types v.of t
  pub number : get_or s.types.now.numbers.items t 0 ≡ n
  pub pointer : get_or s.types.now.pointers.items t 0 ≡ m
  pub behind : Makes old a m n (pointed from m n v.pos) place
  pub load : b.exprs.items ≡ a.exprs.items ++ record { kind = exprs.Load place; of = n; pos = v.pos } ∷ []
  pub value_is : value ≡ length a.exprs.items
  pub init : new.stmts.items ≡ b.stmts.items ++ record { kind = stmts.Init to 0 value; pos = v.pos } ∷ []
  pub number_is : j ≡ length b.stmts.items
  pub load_rest : b ≡ record a { exprs = b.exprs }
  pub init_rest : new ≡ record b { stmts = new.stmts }

pub param_copy_made : (s : Source) (old a b new : Made) (v : VarDef) (from to t n m place value j : ℕ) →
    by_pointer (written_type s v.of) ≡ true → CopiesParam s old a b new v from to t n m place value j →
    IsParamCopy s old new v from to j
param_copy_made s old a b new v from to t n m place value j g st =
    let same : new.exprs.items ≡ b.exprs.items = ap (λ (x : Made). x.exprs.items) st.init_rest in
    let kept : b.stmts.items ≡ a.stmts.items = ap (λ (x : Made). x.stmts.items) st.load_rest in
    record {
      exprs = subst (Extends old.exprs.items) (sym same)
          (extends_push old.exprs.items a.exprs.items b.exprs.items _ st.behind.extends st.load);
      stmts =
          extends_push old.stmts.items b.stmts.items new.stmts.items _
          ([], kept ∙ ap (λ (x : Made). x.stmts.items) st.behind.rest ∙ sym (append-nil old.stmts.items)) st.init;
      vars = ap (λ (x : Made). x.vars) st.init_rest ∙ ap (λ (x : Made). x.vars) st.load_rest
          ∙ ap (λ (x : Made). x.vars) st.behind.rest;
      is = λ ts e fits.
          let es = b.exprs.items in
          let u = written_type s t in
          let tagged : is_tagged u ≡ true = st.bare.same ∙ g in
          let is : u ≡ bare (written_type s v.of) = st.bare.is g in
          let place-a = behind_made s ts e old a from t n m v.pos place fits tagged st.number st.pointer st.behind in
          let made = step_made ts a.exprs.items es (record { kind = exprs.Load place; of = n; pos = v.pos }) place value
          (behind from u v.pos) st.load st.value_is refl place-a in
          let load : HasTerm ts es value (step tree.Load (behind from u v.pos) u v.pos) =
          record {
            there = made.there;
            is = made.is
                ∙ ap (λ x. step tree.Load (behind from u v.pos) x v.pos)
                (number_same s ts e t n fits tagged st.number);
          } in
          let all =
          action_made ts es b.stmts.items new.stmts.items (record { kind = stmts.Init to 0 value; pos = v.pos }) j
          (step tree.Load (behind from u v.pos) u v.pos ∷ []) [] st.init st.number_is
          (one_has ts es value (step tree.Load (behind from u v.pos) u v.pos) load)
          (no_actions_have ts es b.stmts.items) in
          rw (same, ← is) all;
      ordered = λ z us vs o.
          let k = length s.types.now.list.items in
          let tn = z.numbers t n st.number in
          let one = in_push k a b (record { kind = exprs.Load place; of = n; pos = v.pos }) value (place ∷ []) st.load
          kept st.value_is tn refl us vs (st.behind.ordered k (z.pointers t m st.pointer) tn us vs o) in
          in_stmt k b new (record { kind = stmts.Init to 0 value; pos = v.pos }) j (value ∷ []) [] st.init same
          st.number_is refl refl us vs one;
    }

-- ---- the copies of parameters

abbrev copy_of : (k j : ℕ) → Variable → List Action
copy_of k j v = cond (by_pointer v.of) (param_copy k j v ∷ []) []

copies_push : (from to k j : ℕ) (vs : List Variable) (v : Variable) → k ≡ from + length vs →
    j ≡ to + length (flat_map copied_param vs) →
    copies_of from to (vs ++ v ∷ []) ≡ copies_of from to vs ++ copy_of k j v
copies_push from to k j [] v p q =
    let a : k ≡ from = p ∙ omega arith in
    let b : j ≡ to = q ∙ omega arith in
    rw (a, b) (by (by_pointer v.of))
  where
    by : (c : Bool) → cond c (param_copy from to v ∷ []) [] ≡ cond c (param_copy from to v ∷ []) []
    by c = refl
copies_push from to k j (x ∷ vs) v p q =
    by (by_pointer x.of) refl (λ m r. copies_push (from + 1) m k j vs v (p ∙ omega arith) r)
  where
    by : (c : Bool) → by_pointer x.of ≡ c →
        ((m : ℕ) → j ≡ m + length (flat_map copied_param vs) →
        copies_of (from + 1) m (vs ++ v ∷ []) ≡ copies_of (from + 1) m vs ++ copy_of k j v) →
        copies_of from to (x ∷ (vs ++ v ∷ [])) ≡ copies_of from to (x ∷ vs) ++ copy_of k j v
    by true e h =
        let n : length (flat_map copied_param (x ∷ vs)) ≡ length (flat_map copied_param vs) + 1 = rw e (omega arith) in
        rw e (ap (λ ys. param_copy from to x ∷ ys) (h (to + 1) (q ∙ omega arith)))
    by false e h =
        let n : length (flat_map copied_param (x ∷ vs)) ≡ length (flat_map copied_param vs) = rw e refl in
        rw e (h to (q ∙ omega arith))

pub no_copies : (s : Source) (a : Made) (from to : ℕ) (js : List ℕ) → AreParamCopies s a a from to [] js js
no_copies s a from to js = record {
  exprs = extends_same a.exprs.items;
  stmts = extends_same a.stmts.items;
  vars = refl;
  are = λ ts e ys fits h. rw (append-nil ys) h;
  ordered = λ t us vs o. o;
}

pub pointed_copied : (s : Source) (a b c : Made) (from to k j : ℕ) (vs : List Variable) (v : VarDef)
    (before js ls : List ℕ) (i : ℕ) → AreParamCopies s a b from to vs before js → IsParamCopy s b c v k j i →
    by_pointer (written_type s v.of) ≡ true → k ≡ from + length vs →
    j ≡ to + length (flat_map copied_param vs) → ls ≡ js ++ i ∷ [] →
    AreParamCopies s a c from to (vs ++ source_variable s v ∷ []) before ls
pointed_copied s a b c from to k j vs v before js ls i h copy g p q l = record {
  exprs = extends_then a.exprs.items b.exprs.items c.exprs.items h.exprs copy.exprs;
  stmts = extends_then a.stmts.items b.stmts.items c.stmts.items h.stmts copy.stmts;
  vars = copy.vars ∙ h.vars;
  are = λ ts e ys fits had.
      let x = source_variable s v in
      let one : copy_of k j x ≡ param_copy k j x ∷ [] = rw g refl in
      let all : ys ++ copies_of from to (vs ++ x ∷ []) ≡ (ys ++ copies_of from to vs) ++ param_copy k j x ∷ [] =
      ap (λ zs. ys ++ zs) (copies_push from to k j vs x p q ∙ ap (λ zs. copies_of from to vs ++ zs) one)
      ∙ sym (append_assoc ys (copies_of from to vs) (param_copy k j x ∷ [])) in
      rw all (actions_push ts c.exprs.items c.stmts.items js ls i (ys ++ copies_of from to vs) (param_copy k j x) l
      (actions_more ts b.exprs.items c.exprs.items b.stmts.items c.stmts.items js
      (ys ++ copies_of from to vs) copy.exprs copy.stmts
      (h.are ts e ys fits had)) (copy.is ts e fits));
  ordered = λ t. in_stmts (length s.types.now.list.items) a b c [] before [] js ls i (h.ordered t) (copy.ordered t) l;
}

pub plain_copied : (s : Source) (a b : Made) (from to : ℕ) (vs : List Variable) (v : VarDef) (before js : List ℕ) →
    AreParamCopies s a b from to vs before js → by_pointer (written_type s v.of) ≡ false →
    AreParamCopies s a b from to (vs ++ source_variable s v ∷ []) before js
plain_copied s a b from to vs v before js h g = record {
  exprs = h.exprs;
  stmts = h.stmts;
  vars = h.vars;
  are = λ ts e ys fits had.
      let x = source_variable s v in
      let none : copy_of (from + length vs) (to + length (flat_map copied_param vs)) x ≡ [] = rw g refl in
      let all : copies_of from to (vs ++ x ∷ []) ≡ copies_of from to vs =
      copies_push from to (from + length vs) (to + length (flat_map copied_param vs)) vs x refl refl
      ∙ ap (λ zs. copies_of from to vs ++ zs) none ∙ append-nil (copies_of from to vs) in
      rw all (h.are ts e ys fits had);
  ordered = h.ordered;
}

-- how many there are then
pub copied_count : (s : Source) (vs : List Variable) (v : VarDef) (n m : ℕ) → n ≡ length (flat_map copied_param vs) →
    m ≡ length (copied_param (source_variable s v)) →
    n + m ≡ length (flat_map copied_param (vs ++ source_variable s v ∷ []))
copied_count s vs v n m p q =
    let x = source_variable s v in
    let all : flat_map copied_param (vs ++ x ∷ []) ≡ flat_map copied_param vs ++ copied_param x = flat_map_push vs x in
    let count : n + m ≡ length (flat_map copied_param vs ++ copied_param x) =
    omega (arith, length-append (flat_map copied_param vs) (copied_param x)) in
    count ∙ ap length (sym all)
  where
    flat_map_push : (vs : List Variable) (x : Variable) →
        flat_map copied_param (vs ++ x ∷ []) ≡ flat_map copied_param vs ++ copied_param x
    flat_map_push [] x = append-nil (copied_param x)
    flat_map_push (y ∷ ys) x =
        ap (λ zs. copied_param y ++ zs) (flat_map_push ys x)
        ∙ sym (append_assoc (copied_param y) (flat_map copied_param ys) (copied_param x))

-- what holds of the copies so far
pub record Copies (s : Source) (old now : Made) (first local : ℕ) (params : List VarDef) (i from to : ℕ)
    (before js : List ℕ) : Type 0 where
  pub from_is : from ≡ first + i
  pub to_is : to ≡ local + length (flat_map copied_param (map (source_variable s) (take i params)))
  pub are : AreParamCopies s old now first local (map (source_variable s) (take i params)) before js

params_turn : (s : Source) (params : List VarDef) (i : ℕ) (d v : VarDef) → i < length params → v ≡ get_or params i d →
    map (source_variable s) (take (i + 1) params) ≡ map (source_variable s) (take i params) ++ source_variable s v ∷ []
params_turn s params i d v lt q =
    ap (map (source_variable s)) (take_more params i d lt ∙ ap (λ z. take i params ++ z ∷ []) (sym q))
    ∙ map-append (source_variable s) (take i params) (v ∷ [])

seen_length : (s : Source) (params : List VarDef) (i : ℕ) → i < length params →
    length (map (source_variable s) (take i params)) ≡ i
seen_length s params i lt = length-map (take i params) (source_variable s) ∙ length-take-le i params (omega arith)

pub copies_pointed : (s : Source) (a b c : Made) (first local : ℕ) (params : List VarDef) (i from to : ℕ) (d v : VarDef)
    (before js ls : List ℕ) (j : ℕ) → Copies s a b first local params i from to before js → i < length params →
    v ≡ get_or params i d →
    by_pointer (written_type s v.of) ≡ true → IsParamCopy s b c v from to j → ls ≡ js ++ j ∷ [] →
    Copies s a c first local params (i + 1) (from + 1) (to + 1) before ls
copies_pointed s a b c first local params i from to d v before js ls j h lt q g copy l =
    let vs = map (source_variable s) (take i params) in
    let turn = sym (params_turn s params i d v lt q) in
    let x = source_variable s v in
    let one : 1 ≡ length (copied_param x) = rw g refl in
    let more : length (flat_map copied_param vs) + 1 ≡ length (flat_map copied_param (vs ++ x ∷ [])) =
    copied_count s vs v (length (flat_map copied_param vs)) 1 refl one in
    let all : length (flat_map copied_param (vs ++ x ∷ []))
    ≡ length (flat_map copied_param (map (source_variable s) (take (i + 1) params))) =
    ap (λ zs. length (flat_map copied_param zs)) turn in
    let size = seen_length s params i lt in
    let at : from ≡ first + length vs = let f = h.from_is in omega arith in
    record {
      from_is = let f = h.from_is in omega arith;
      to_is = let t = h.to_is in omega arith;
      are = subst (λ zs. AreParamCopies s a c first local zs before ls) turn
          (pointed_copied s a b c first local from to vs v before js ls j h.are copy g at h.to_is l);
    }

pub copies_plain : (s : Source) (a b : Made) (first local : ℕ) (params : List VarDef) (i from to : ℕ) (d v : VarDef)
    (before js : List ℕ) → Copies s a b first local params i from to before js → i < length params →
    v ≡ get_or params i d →
    by_pointer (written_type s v.of) ≡ false → Copies s a b first local params (i + 1) (from + 1) to before js
copies_plain s a b first local params i from to d v before js h lt q g =
    let vs = map (source_variable s) (take i params) in
    let turn = sym (params_turn s params i d v lt q) in
    let x = source_variable s v in
    let none : 0 ≡ length (copied_param x) = rw g refl in
    let more : length (flat_map copied_param vs) + 0 ≡ length (flat_map copied_param (vs ++ x ∷ [])) =
    copied_count s vs v (length (flat_map copied_param vs)) 0 refl none in
    let all : length (flat_map copied_param (vs ++ x ∷ []))
    ≡ length (flat_map copied_param (map (source_variable s) (take (i + 1) params))) =
    ap (λ zs. length (flat_map copied_param zs)) turn in
    record {
      from_is = let f = h.from_is in omega arith;
      to_is = let t = h.to_is in omega arith;
      are = subst (λ zs. AreParamCopies s a b first local zs before js) turn
          (plain_copied s a b first local vs v before js h.are g);
    }

pub copies_at : (s : Source) (a b now : Made) (first local : ℕ) (params : List VarDef) (i from to f t : ℕ)
    (before js ls : List ℕ) → Copies s a b first local params i from to before js → now ≡ b → f ≡ from → t ≡ to →
    ls ≡ js →
    Copies s a now first local params i f t before ls
copies_at s a b now first local params i from to f t before js ls h p q r u = rw (p, q, r, u) h
