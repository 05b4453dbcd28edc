-- Which temps code awaits, told by how often it goes back; and what instructions add to them.
use Rattle.std.proofs.Common.{◌≡◌, ℕ, zero, suc, ◌<◌, Bool, true, false, List, [], ◌∷◌, Option, Some, None, ◌⊎◌}
use Rattle.std.proofs.Common.{inl, inr, refl, ap, subst}
use Rattle.std.specs.Prelude.{if◌then◌else◌, ◌==◌}
use Rattle.tac_ir.specs.Temps.{IsIn, in_option, reads, writes, goes_to, falls, behind, Awaits}
use Rattle.tac_ir.specs.Temps as awaits
use Rattle.tac_ir.specs.declared.code.TacInstr.{TacInstr}
use Rattle.tac_ir.specs.declared.code.TacInstr.TheVariants as instr

-- A temp is read before it is written, on a way that goes back at most so often
pub data Awaited (whole : List TacInstr) : ℕ → List TacInstr → ℕ → Type 0 where
  now : {n : ℕ} {i : TacInstr} {is : List TacInstr} {k : ℕ} → IsIn k (reads i) → Awaited whole n (i ∷ is) k
  onward : {n : ℕ} {i : TacInstr} {is : List TacInstr} {k : ℕ} → falls i ≡ true → (IsIn k (writes i) → ⊥) →
      Awaited whole n is k → Awaited whole n (i ∷ is) k
  ahead : {n : ℕ} {i : TacInstr} {is : List TacInstr} {k : ℕ} → (l : ℕ) → IsIn l (goes_to i) →
      Awaited whole n (behind l is) k → Awaited whole n (i ∷ is) k
  back : {n : ℕ} {i : TacInstr} {is : List TacInstr} {k : ℕ} → (l : ℕ) → IsIn l (goes_to i) →
      Awaited whole n (behind l whole) k → Awaited whole (suc n) (instr.Turn ∷ i ∷ is) k

pub counted : (whole is : List TacInstr) (k : ℕ) → Awaits reads writes whole is k → (n : ℕ) × Awaited whole n is k
counted whole is k (awaits.now h) = (0, now h)
counted whole is k (awaits.onward {is = js} f w h) = let a = counted whole js k h in (a.0, onward f w a.1)
counted whole is k (awaits.ahead {is = js} l g h) = let a = counted whole (behind l js) k h in (a.0, ahead l g a.1)
counted whole is k (awaits.back l g h) = let a = counted whole (behind l whole) k h in (suc a.0, back l g a.1)

pub more_often : (whole : List TacInstr) (n : ℕ) (is : List TacInstr) (k : ℕ) → Awaited whole n is k →
    Awaited whole (suc n) is k
more_often whole n is k (now h) = now h
more_often whole n is k (onward {is = js} f w h) = onward f w (more_often whole n js k h)
more_often whole n is k (ahead {is = js} l g h) = ahead l g (more_often whole n (behind l js) k h)
more_often whole n is k (back {n = j} l g h) = back l g (more_often whole j (behind l whole) k h)

-- the instructions at which code neither jumps nor ends
abbrev pub IsPlain : TacInstr → Type 0
IsPlain (instr.Jump l) = ⊥
IsPlain (instr.Branch on when l) = ⊥
IsPlain (instr.Return v) = ⊥
IsPlain instr.Turn = ⊥
IsPlain i = Unit {0}

-- and where no label stands
abbrev pub IsUnlabelled : TacInstr → Type 0
IsUnlabelled (instr.Label l) = ⊥
IsUnlabelled i = Unit {0}

pub none_in : (k : ℕ) → IsIn k [] → ⊥
none_in k (j, e) = let f : None ≡ Some k = e in cc

one_in : (k l : ℕ) → IsIn k (l ∷ []) → k ≡ l
one_in k l (zero, e) = let f : Some l ≡ Some k = e in cc
one_in k l (suc j, e) = absurd (none_in k (j, e))

plain_stays : (i : TacInstr) → IsPlain i → (l : ℕ) → IsIn l (goes_to i) → ⊥
plain_stays (instr.Jump l) h k e = h
plain_stays (instr.Branch on when l) h k e = h
plain_stays i h k e = none_in k e

-- ---- temps that have been written, or are parameters

module _ (params : ℕ) where
  abbrev pub Have : List ℕ → ℕ → Type 0
  Have [] t = t < params
  Have (w ∷ ws) t = (w ≡ t) ⊎ Have ws t

  abbrev pub HaveAll : List ℕ → List ℕ → Type 0
  HaveAll ws [] = Unit {0}
  HaveAll ws (t ∷ ts) = Have ws t × HaveAll ws ts

  pub have_one : (ws ts : List ℕ) → HaveAll ws ts → (t : ℕ) → IsIn t ts → Have ws t
  have_one ws [] h t e = absurd (none_in t e)
  have_one ws (x ∷ ts) h t (zero, e) = let f : Some x ≡ Some t = e in let g : x ≡ t = cc in subst (Have ws) g h.0
  have_one ws (x ∷ ts) h t (suc j, e) = have_one ws ts h.1 t (j, e)

  -- those that are written besides
  abbrev pub joined : List ℕ → List ℕ → List ℕ
  joined [] ws = ws
  joined (t ∷ ts) ws = joined ts (t ∷ ws)

  pub joined_more : (ts ws : List ℕ) (t : ℕ) → Have ws t → Have (joined ts ws) t
  joined_more [] ws t h = h
  joined_more (x ∷ ts) ws t h = joined_more ts (x ∷ ws) t (inr h)

  pub joined_has : (ts ws : List ℕ) → HaveAll (joined ts ws) ts
  joined_has [] ws = tt
  joined_has (x ∷ ts) ws = (joined_more ts (x ∷ ws) x (inl refl), joined_has ts (x ∷ ws))

  pub joined_least : (ts ws vs : List ℕ) → ((t : ℕ) → Have ws t → Have vs t) → HaveAll vs ts → (t : ℕ) →
      Have (joined ts ws) t → Have vs t
  joined_least [] ws vs more h t a = more t a
  joined_least (x ∷ ts) ws vs more h t a = joined_least ts (x ∷ ws) vs by h.1 t a
    where
      by : (u : ℕ) → Have (x ∷ ws) u → Have vs u
      by u (inl e) = subst (Have vs) e h.0
      by u (inr g) = more u g

  joined_others : (ts ws : List ℕ) (t : ℕ) → (IsIn t ts → ⊥) → Have (joined ts ws) t → Have ws t
  joined_others [] ws t ne h = h
  joined_others (x ∷ ts) ws t ne h = by (joined_others ts (x ∷ ws) t (λ q. ne (suc q.0, q.1)) h)
    where
      by : Have (x ∷ ws) t → Have ws t
      by (inl e) = absurd (ne (0, ap Some e))
      by (inr g) = g

  pub all_more : (vs ws ts : List ℕ) → ((t : ℕ) → Have vs t → Have ws t) → HaveAll vs ts → HaveAll ws ts
  all_more vs ws [] more h = tt
  all_more vs ws (x ∷ ts) more h = (more x h.0, all_more vs ws ts more h.1)

  module _ (whole : List TacInstr) where
    -- code awaits only temps that it has
    pub record Only (n : ℕ) (ws : List ℕ) (is : List TacInstr) : Type 0 where
      pub only : (t : ℕ) → Awaited whole n is t → Have ws t

    pub only_more : (n : ℕ) (vs ws : List ℕ) (is : List TacInstr) → ((t : ℕ) → Have vs t → Have ws t) → Only n vs is →
        Only n ws is
    only_more n vs ws is more h = record { only = λ t a. more t (h.only t a) }

    pub only_often : (n : ℕ) (ws : List ℕ) (is : List TacInstr) → Only (suc n) ws is → Only n ws is
    only_often n ws is h = record { only = λ t a. h.only t (more_often whole n is t a) }

    pub only_nothing : (n : ℕ) (ws : List ℕ) → Only n ws []
    only_nothing n ws = record { only = λ t a. by t a }
      where
        by : {n : ℕ} (t : ℕ) → Awaited whole n [] t → Have ws t
        by t a = elim a [ ]

    module _ (n : ℕ) (ws : List ℕ) where
      pub step : (i : TacInstr) (is : List TacInstr) → IsPlain i → HaveAll ws (reads i) →
          Only n (joined (writes i) ws) is → Only n ws (i ∷ is)
      step i is plain h next = record { only = λ t a. by i is plain h next t a }
        where
          by : {n : ℕ} (i : TacInstr) (is : List TacInstr) → IsPlain i → HaveAll ws (reads i) →
              Only n (joined (writes i) ws) is → (t : ℕ) → Awaited whole n (i ∷ is) t → Have ws t
          by i is plain h next t (now e) = have_one ws (reads i) h t e
          by i is plain h next t (onward f ne a) = joined_others (writes i) ws t ne (next.only t a)
          by i is plain h next t (ahead l e a) = absurd (plain_stays i plain l e)
          by i is plain h next t (back l e a) = absurd plain

      pub step_return : (v : Option ℕ) (is : List TacInstr) → HaveAll ws (in_option v) →
          Only n ws (instr.Return v ∷ is)
      step_return v is h = record { only = λ t a. by v is h t a }
        where
          by : {n : ℕ} (v : Option ℕ) (is : List TacInstr) → HaveAll ws (in_option v) → (t : ℕ) →
              Awaited whole n (instr.Return v ∷ is) t → Have ws t
          by v is h t (now e) = have_one ws (in_option v) h t e
          by v is h t (onward f ne a) = let g : false ≡ true = f in absurd (cc)
          by v is h t (ahead l e a) = absurd (none_in l e)

      onward_jump : {m : ℕ} (l : ℕ) (is : List TacInstr) → Only m ws (behind l is) → (t : ℕ) →
          Awaited whole m (instr.Jump l ∷ is) t → Have ws t
      onward_jump l is next t (now e) = absurd (none_in t e)
      onward_jump l is next t (onward f ne a) = let g : false ≡ true = f in absurd (cc)
      onward_jump {m = m} l is next t (ahead k e a) =
          next.only t (subst (λ z. Awaited whole m (behind z is) t) (one_in k l e) a)

      pub step_jump : (l : ℕ) (is : List TacInstr) → Only n ws (behind l is) → Only n ws (instr.Jump l ∷ is)
      step_jump l is next = record { only = λ t a. onward_jump l is next t a }

      pub step_branch : (on : ℕ) (when : Bool) (l : ℕ) (is : List TacInstr) → Have ws on → Only n ws is →
          Only n ws (behind l is) → Only n ws (instr.Branch on when l ∷ is)
      step_branch on when l is h next over = record { only = λ t a. by on when l is h next over t a }
        where
          by : {n : ℕ} (on : ℕ) (when : Bool) (l : ℕ) (is : List TacInstr) → Have ws on → Only n ws is →
              Only n ws (behind l is) → (t : ℕ) → Awaited whole n (instr.Branch on when l ∷ is) t → Have ws t
          by on when l is h next over t (now e) = have_one ws (on ∷ []) (h, tt) t e
          by on when l is h next over t (onward f ne a) = next.only t a
          by {n = n} on when l is h next over t (ahead k e a) =
              over.only t (subst (λ z. Awaited whole n (behind z is) t) (one_in k l e) a)

      pub step_turn : (l : ℕ) (is : List TacInstr) → Only n ws (behind l is)
          → ((j : ℕ) → n ≡ suc j → Only j ws (behind l whole)) → Only n ws (instr.Turn ∷ instr.Jump l ∷ is)
      step_turn l is next again = record { only = λ t a. by l is next again t a }
        where
          by : {n : ℕ} (l : ℕ) (is : List TacInstr) → Only n ws (behind l is)
              → ((j : ℕ) → n ≡ suc j → Only j ws (behind l whole)) → (t : ℕ) →
              Awaited whole n (instr.Turn ∷ instr.Jump l ∷ is) t → Have ws t
          by l is next again t (now e) = absurd (none_in t e)
          by l is next again t (onward f ne a) = onward_jump l is next t a
          by l is next again t (ahead k e a) = absurd (none_in k e)
          by l is next again t (back {n = j} k e a) =
              (again j refl).only t (subst (λ z. Awaited whole j (behind z whole) t) (one_in k l e) a)

    -- a label that is looked for or not
    pub step_label : (n : ℕ) (ws : List ℕ) (l : ℕ) (is : List TacInstr) → Only n ws is → Only n ws (instr.Label l ∷ is)
    step_label n ws l is h = step n ws (instr.Label l) is tt tt h

    pub past_label : (n : ℕ) (ws : List ℕ) (k l : ℕ) (is : List TacInstr) → Only n ws is → Only n ws (behind l is) →
        Only n ws (behind l (instr.Label k ∷ is))
    past_label n ws k l is h g = by (k == l)
      where
        by : (b : Bool) → Only n ws (if b then is else behind l is)
        by true = h
        by false = g
