-- Code is shown to be that of arguments, one by one.
use Rattle.std.proofs.Common.{◌≡◌, ℕ, zero, suc, ◌+◌, ◌<◌, List, [], ◌∷◌, ◌++◌, length, get_or, Option}
use Rattle.std.proofs.Common.{Some, None, refl, sym, ap, ◌∙◌, subst, arith, append_assoc}
use Rattle.std.specs.Prelude.{drop}
use Rattle.std.specs.Option.{option_to_list}
use Rattle.cheri_c_sem.specs.Expressions.{arguments}
use Rattle.tac_emit.specs.declared.emitter.Emitter.{Emitter}
use Rattle.tac_lower.specs.declared.writes.Written.{Written}
use Rattle.lower_runs.specs.States.{Scene}
use Rattle.lower_runs.specs.Expressions.{arguments_none, arguments_one, spares, spare}
use Rattle.tac_lower.specs.Nodes.{IsScalar, kind_in}
use Rattle.tac_emit.specs.Adding.{none}
use Rattle.tac_lower.specs.Trees.{Setting, tree, Suits, CoversAll, SparesAll, AreBehind}
use Rattle.tac_lower.specs.Trees.{ShowsOperand, ShowsArguments}
use Rattle.tac_emit.proofs.Emitting.{added_then}
use Rattle.tac_lower.proofs.Keeping.{scalar_kind}
use Rattle.tac_emit.proofs.Wells.{keeps_same, keeps_then, and_true}

-- ---- the last of a list

last_same : (xs ys : List Written) (v w : Written) → xs ++ v ∷ [] ≡ ys ++ w ∷ [] → (ys ≡ xs) × (w ≡ v)
last_same [] [] v w h = let e : v ≡ w = cc in (refl, sym e)
last_same [] (y ∷ []) v w h = absurd (let e : [] ≡ w ∷ [] = cc in cc)
last_same [] (y ∷ (z ∷ ys)) v w h = absurd (let e : [] ≡ z ∷ (ys ++ w ∷ []) = cc in cc)
last_same (x ∷ []) [] v w h = absurd (let e : v ∷ [] ≡ [] = cc in cc)
last_same (x ∷ (z ∷ xs)) [] v w h = absurd (let e : z ∷ (xs ++ v ∷ []) ≡ [] = cc in cc)
last_same (x ∷ xs) (y ∷ ys) v w h =
    let e : x ≡ y = cc in
    let rest : xs ++ v ∷ [] ≡ ys ++ w ∷ [] = cc in
    let q = last_same xs ys v w rest in (ap (λ z. z ∷ ys) (sym e) ∙ ap (λ z. x ∷ z) q.0, q.1)

never_nil : (xs : List Written) (v : Written) → length (xs ++ v ∷ []) ≡ 0 → ⊥
never_nil [] v h = omega (arith, h)
never_nil (x ∷ xs) v h = omega (arith, h)

pub last_taken : (front old new : List Written) (w : Written) (r : Option Written) → old ≡ front ++ w ∷ [] →
    old ≡ new ++ option_to_list r → (r ≡ None → length old ≡ 0) → (new ≡ front) × (r ≡ Some w)
last_taken front old new w None is e h = absurd (never_nil front w (ap length (sym is) ∙ h refl))
last_taken front old new w (Some v) is e h =
    let q = last_same front new w v (sym is ∙ e) in (q.0, ap Some q.1)

pub dropped : (ks : List ℕ) (i d : ℕ) → i < length ks → drop i ks ≡ get_or ks i d ∷ drop (i + 1) ks
dropped [] i d h = absurd (omega arith)
dropped (k ∷ ks) zero d h = refl
dropped (k ∷ ks) (suc i) d h =
    let e : suc (i + 1) ≡ suc i + 1 = omega arith in
    dropped ks i d (omega arith) ∙ ap (λ z. get_or ks i d ∷ drop z (k ∷ ks)) e

-- ---- what is written behind

module _ (s : Setting) where
  pub covers_all : (w : Written) (ks : List ℕ) (g : Scene) → SparesAll s.writes w ks → Suits s g →
      CoversAll w (arguments (tree s) ks)
  covers_all w [] g h suits = record { spared = λ x i. refl }
  covers_all w (k ∷ ks) g h suits = record {
    spared = λ x i. and_true (spares x (tree s k)) (spare x (arguments (tree s) ks))
        ((suits.written k).spared x (h x 0 k i refl))
        ((covers_all w ks g (λ y j a f e. h y (suc j) a f e) suits).spared x i);
  }

  -- ---- one by one

  pub none_shown : (a : Emitter) → ShowsArguments s [] [] a a
  none_shown a = record {
    code = none;
    added = record { is = λ rest. refl };
    keeps = keeps_same a.kinds.items a.kinds.items refl;
    is = λ g kinds suits keeps scalars means. arguments_none;
  }

  pub one_shown : (k t : ℕ) (ks ts : List ℕ) {w : Written} {a b c : Emitter} → SparesAll s.writes w ks →
      ShowsOperand s w k t a b → ShowsArguments s ks ts b c → ShowsArguments s (k ∷ ks) (t ∷ ts) a c
  one_shown k t ks ts {w = w} {a = a} {b = b} {c = c} spared f h = record {
    code = λ r. f.code (h.code r);
    added = added_then f.added h.added;
    keeps = keeps_then a.kinds.items b.kinds.items c.kinds.items f.keeps h.keeps;
    is = λ g kinds suits keeps scalars means.
        let kept = keeps_then b.kinds.items c.kinds.items kinds h.keeps keeps in
        let one = scalars 0 k refl in
        let scalar : IsScalar s.program k (kind_in s.program k) =
        record { is = one.is.is ∙ ap Some (sym (scalar_kind one.is)) } in
        let first = f.is g kinds suits kept (arguments (tree s) ks) (kind_in s.program k)
        (covers_all w ks g spared suits) scalar means.0 in
        arguments_one first (h.is g kinds suits keeps (λ j a e. scalars (suc j) a e) means.1);
  }

  -- So many arguments have their code: whatever code those that are left get, it is that of all; and what is written
  -- behind each of these is known
  pub record ArgumentsSo (all : List ℕ) (old new : Emitter) (left ts : List ℕ) (behind : List Written) : Type 0 where
    pub later : AreBehind s.writes left behind
    pub is : (last : Emitter) (us : List ℕ) → ShowsArguments s left us new last →
        ShowsArguments s all (ts ++ us) old last

  pub arguments_start : {all : List ℕ} {behind : List Written} (a : Emitter) → AreBehind s.writes all behind →
      ArgumentsSo all a a all [] behind
  arguments_start a h = record { later = h; is = λ last us f. f }

  pub arguments_step : {all left ts : List ℕ} {front back : List Written} {r : Option Written} {w : Written} {k t : ℕ}
      {a b c : Emitter} → ArgumentsSo all a b (k ∷ left) ts front → front ≡ back ++ option_to_list r →
      (r ≡ None → length front ≡ 0) → ((v : Written) → r ≡ Some v → w ≡ v) → ShowsOperand s w k t b c →
      ArgumentsSo all a c left (ts ++ t ∷ []) back
  arguments_step {all = all} {left = left} {ts = ts} {front = front} {back = back} {r = r} {w = w} {k = k} {t = t}
      {a = a} h e some later f =
      let last = last_taken h.later.0 front back h.later.1 r h.later.2 e some in
      let is : w ≡ h.later.1 = later h.later.1 last.1 in
      record {
        later = subst (λ z. AreBehind s.writes left z) (sym last.0) h.later.4;
        is = λ end us g. subst (λ z. ShowsArguments s all z a end) (sym (append_assoc ts (t ∷ []) us))
            (h.is end (t ∷ us) (one_shown k t left us (subst (λ z. SparesAll s.writes z left) (sym is) h.later.3) f g));
      }

  pub arguments_end : {all ts : List ℕ} {behind : List Written} {a b : Emitter} → ArgumentsSo all a b [] ts behind →
      ShowsArguments s all (ts ++ []) a b
  arguments_end {b = b} h = h.is b [] (none_shown b)
