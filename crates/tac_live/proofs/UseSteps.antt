-- One more instruction for the uses of a temp.
use Rattle.std.proofs.Common.{◌≡◌, ℕ, zero, suc, ◌+◌, ◌<◌, ◌≤◌, Bool, true, false, List, [], ◌∷◌, ◌++◌, length, get_or}
use Rattle.std.proofs.Common.{set, take, All, Option, Some, None, ◌⊎◌, inl, inr, refl, sym, ap, subst, ◌∙◌, arith}
use Rattle.std.specs.Prelude.{◌&&◌, ◌==◌, nat_le, if◌then◌else◌}
use Rattle.std.proofs.lemmas.Bool.{cases_eq, cases_Bool, eqb-true, eq-eqb, ne_eqb, leb-true, leb-false, le-leb}
use Rattle.std.proofs.lemmas.Bool.{and_parts, and_cases, both_ways}
use Rattle.std.proofs.lemmas.List.{length-set, take_more, get_or-set_same, get_or-set_other}
use Rattle.tac_ir.specs.Intervals.{IsAt, NamesAt, ReadsAt, is_control}
use Rattle.tac_ir.specs.Temps.{IsIn, in_option, reads, writes, names}
use Rattle.tac_ir.specs.declared.code.TacInstr.{TacInstr}
use Rattle.tac_live.proofs.Numbers.{same_at, at_within, all_right, is_in_left, is_in_right, is_in_append, is_in_cases}
use Rattle.tac_live.specs.Calls.{arguments}
use Rattle.tac_live.specs.Uses.{with_use, noted, IsDivided, AreUses, MatchUses}
use Rattle.tac_live.specs.declared.uses.Uses.{Uses}
use Rattle.tac_live.specs.declared.uses.Place.{Place}

-- ---- temps that are named in turn

and_same : (a d : Bool) → ((a && d) && d) ≡ (a && d)
and_same true true = refl
and_same true false = refl
and_same false d = refl

and_true : (a d : Bool) → d ≡ true → (a && d) ≡ a
and_true true d e = e
and_true false d e = refl

-- named twice by one instruction is named once
with_use_twice : (p : Place) (w : Bool) (u : Option Uses) → p.control ≤ p.at →
    with_use (Some (with_use u p w)) p w ≡ with_use u p w
with_use_twice p w None h =
    ap (λ s. record { first = p.at; last = p.at; straight = s }) (and_true w _ (le-leb p.control p.at h))
with_use_twice p w (Some u) h =
    ap (λ s. record { first = u.first; last = p.at; straight = s }) (and_same u.straight (nat_le p.control u.first))

read_and_written : (p : Place) (u : Option Uses) → with_use (Some (with_use u p false)) p true ≡ with_use u p false
read_and_written p None = refl
read_and_written p (Some u) =
    ap (λ s. record { first = u.first; last = p.at; straight = s }) (and_same u.straight (nat_le p.control u.first))

noted_again : (p : Place) (w : Bool) (ks : List ℕ) (t : ℕ) (u : Option Uses) → p.control ≤ p.at →
    noted p w ks t (Some (with_use u p w)) ≡ Some (with_use u p w)
noted_again p w [] t u h = refl
noted_again p w (k ∷ ks) t u h =
    elim (cases_Bool (k == t)) [
      | inl e ↦ rw e (rw (with_use_twice p w u h) (noted_again p w ks t u h))
      | inr e ↦ rw e (noted_again p w ks t u h)
    ]

pub noted_in : (p : Place) (w : Bool) (ks : List ℕ) (t : ℕ) (u : Option Uses) → p.control ≤ p.at → IsIn t ks →
    noted p w ks t u ≡ Some (with_use u p w)
noted_in p w [] t u h (j, g) = absurd (cc)
noted_in p w (k ∷ ks) t u h (zero, g) = let e : (k == t) ≡ true = eq-eqb k t (cc) in rw e (noted_again p w ks t u h)
noted_in p w (k ∷ ks) t u h (suc j, g) =
    elim (cases_Bool (k == t)) [
      | inl e ↦ rw e (noted_again p w ks t u h)
      | inr e ↦ rw e (noted_in p w ks t u h (j, g))
    ]

pub noted_out : (p : Place) (w : Bool) (ks : List ℕ) (t : ℕ) (u : Option Uses) → (IsIn t ks → ⊥) → noted p w ks t u ≡ u
noted_out p w [] t u absent = refl
noted_out p w (k ∷ ks) t u absent =
    elim (cases_Bool (k == t)) [
      | inl e ↦ absurd (absent (zero, ap Some (eqb-true k t e)))
      | inr e ↦ rw e (noted_out p w ks t u (λ h. absent (suc h.0, h.1)))
    ]

-- ---- what is known of a temp

-- the last label, jump or branch of the instructions up to a number, or 0
pub record IsLastControl (code : List TacInstr) (upto control : ℕ) : Type 0 where
  pub bound : control ≤ upto
  pub stands : 0 < control → (i : TacInstr) × IsAt code control i × (is_control i ≡ true)
  pub last : (n : ℕ) (i : TacInstr) → IsAt code n i → n ≤ upto → is_control i ≡ true → n ≤ control

module _ (code : List TacInstr) (upto at t : ℕ) (next : at ≡ suc upto) where
  not_named : (o : Option Uses) → (NamesAt code t at → ⊥) → MatchUses code upto t o → MatchUses code at t o
  not_named None absent h =
      λ n a le. elim (cases_eq n at) [
        | inl e ↦ absent (subst (λ m. NamesAt code t m) e a)
        | inr ne ↦ h n a
            (omega arith)
      ]
  not_named (Some u) absent h = record {
    first = h.first;
    last = h.last;
    bound = let b = h.bound in omega arith;
    between = λ n a le. elim (cases_eq n at) [
      | inl e ↦ absurd
          (absent (subst (λ m. NamesAt code t m) e a))
      | inr ne ↦ h.between n a (omega arith)
    ];
    written_first = h.written_first;
    undivided = h.undivided;
    bent = h.bent;
  }

  first_named : (s : Bool) → ((n : ℕ) → NamesAt code t n → n ≤ upto → ⊥) → NamesAt code t at →
      (s ≡ true → ReadsAt code t at → ⊥) → (s ≡ false → ReadsAt code t at) →
      AreUses code at t (record { first = at; last = at; straight = s })
  first_named s none here unread read = record {
    first = here;
    last = here;
    bound = omega arith;
    between = λ n a le. elim (cases_eq n at) [
      | inl e ↦ (omega arith, omega arith)
      | inr ne ↦ absurd
          (none n a (omega arith))
    ];
    written_first = unread;
    undivided = λ e d. let b = d.behind in let c = d.before in omega arith;
    bent = λ e. inl (read e);
  }

  still_bent : (control : ℕ) (u : Uses) → IsLastControl code upto control → AreUses code upto t u →
      (u.straight ≡ false) ⊎ (nat_le control u.first ≡ false) → ReadsAt code t u.first ⊎ IsDivided code u.first at
  still_bent control u lc h (inl e) =
      elim (h.bent e) [
        | inl r ↦ inl r
        | inr d ↦ inr (record {
          at = d.at;
          control = d.control;
          stands = d.stands;
          divides = d.divides;
          behind = d.behind;
          before = let b = d.before in let l = h.bound in omega arith;
        })
      ]
  still_bent control u lc h (inr e) =
      let above : u.first < control = leb-false control u.first e in
      let s = lc.stands (omega arith) in
      inr (record {
        at = control;
        control = s.0;
        stands = s.1;
        divides = s.2;
        behind = above;
        before = let b = lc.bound in omega arith;
      })

  named_again : (control : ℕ) (u : Uses) → IsLastControl code upto control → AreUses code upto t u → NamesAt code t at →
      AreUses code at t (record { first = u.first; last = at; straight = u.straight && nat_le control u.first })
  named_again control u lc h here = record {
    first = h.first;
    last = here;
    bound = omega arith;
    between = λ n a le. elim (cases_eq n at) [
      | inl e ↦ let f = (h.between u.last h.last h.bound).0 in let b = h.bound in (omega arith, omega arith)
      | inr ne ↦ let f = h.between n a (omega arith) in let b = h.bound in (f.0, omega arith)
    ];
    written_first = λ e. h.written_first ((and_parts u.straight _ e).0);
    undivided = λ e d.
        let below : control ≤ u.first = leb-true control u.first ((and_parts u.straight _ e).1) in
        let b = d.before in
        let c = d.behind in
        let l = lc.last d.at d.control d.stands (omega arith) d.divides in
        omega arith;
    bent = λ e. still_bent control u lc h (and_cases u.straight _ e);
  }

  named : (p : Place) (o : Option Uses) (s : Bool) → p.at ≡ at → IsLastControl code upto p.control →
      MatchUses code upto t o → NamesAt code t at → (s ≡ true → ReadsAt code t at → ⊥) →
      (s ≡ false → ReadsAt code t at) → AreUses code at t (with_use o p s)
  named p None s e lc h here unread read =
      subst (λ a. AreUses code at t (record { first = a; last = a; straight = s })) (sym e)
      (first_named s h here unread read)
  named p (Some u) s e lc h here unread read =
      subst (λ a. AreUses code at t (record {
        first = u.first;
        last = a;
        straight = u.straight && nat_le p.control u.first;
      })) (sym e) (named_again p.control u lc h here)

  pub uses_step : (p : Place) (i : TacInstr) (o : Option Uses) → p.at ≡ at → IsLastControl code upto p.control →
      IsAt code at i → MatchUses code upto t o →
      MatchUses code at t (noted p true (writes i) t (noted p false (reads i) t o))
  uses_step p i o e lc here h =
      let le : p.control ≤ p.at = let b = lc.bound in omega arith in
      elim (is_in_cases t (reads i)) [
        | inl r ↦
            let is_read : ReadsAt code t at = (i, here, r) in
            let is_named : NamesAt code t at = (i, here, is_in_right t (writes i) (reads i) r) in
            let used = named p o false e lc h is_named (λ e r. absurd (both_ways false refl e)) (λ e. is_read) in
            let first = noted_in p false (reads i) t o le r in
            elim (is_in_cases t (writes i)) [
              | inl w ↦ rw first (rw (noted_in p true (writes i) t (Some (with_use o p false)) le w)
                  (rw (read_and_written p o) used))
              | inr absent ↦ rw first (rw (noted_out p true (writes i) t (Some (with_use o p false)) absent) used)
            ]
        | inr unread ↦
            let not_read : ReadsAt code t at → ⊥ =
            λ (a : ReadsAt code t at). unread (subst (λ j. IsIn t (reads j))
            (same_at code at a.0 i a.1 here) a.2) in
            let first = noted_out p false (reads i) t o unread in
            elim (is_in_cases t (writes i)) [
              | inl w ↦
                  let is_named : NamesAt code t at = (i, here, is_in_left t (writes i) (reads i) w) in
                  rw first (rw (noted_in p true (writes i) t o le w)
                  (named p o true e lc h is_named (λ e. not_read) (λ e. absurd (both_ways true e refl))))
              | inr absent ↦
                  rw first (rw (noted_out p true (writes i) t o absent)
                  (not_named o (λ (a : NamesAt code t at).
                  neither i unread absent (subst (λ j. IsIn t (names j))
                  (same_at code at a.0 i a.1 here) a.2)) h))
            ]
      ]
    where
      neither : (i : TacInstr) → (IsIn t (reads i) → ⊥) → (IsIn t (writes i) → ⊥) → IsIn t (names i) → ⊥
      neither i unread unwritten a =
          elim (is_in_append t (writes i) (reads i) a) [ inl w ↦ unwritten w | inr r ↦ unread r ]

-- ---- labels, jumps and branches

pub control_here : (code : List TacInstr) (upto at control : ℕ) (i : TacInstr) → at ≡ suc upto → IsAt code at i →
    is_control i ≡ true → IsLastControl code at at
control_here code upto at control i next here e =
    record { bound = omega arith; stands = λ h. (i, here, e); last = λ n i a le e. le }

pub control_before : (code : List TacInstr) (upto at control : ℕ) (i : TacInstr) → at ≡ suc upto → IsAt code at i →
    is_control i ≡ false → IsLastControl code upto control → IsLastControl code at control
control_before code upto at control i next here e h = record {
  bound = let b = h.bound in omega arith;
  stands = h.stands;
  last = λ n j a le f. elim (cases_eq n at) [
    | inl same ↦ absurd (both_ways (is_control i) e
        (subst (λ k. is_control k ≡ true) (same_at code at j i (subst (λ m. IsAt code m j) same a) here) f))
    | inr ne ↦ h.last n j a (omega arith) f
  ];
}

-- ---- parts

pub noted-append : (p : Place) (w : Bool) (xs ys : List ℕ) (t : ℕ) (u : Option Uses) →
    noted p w (xs ++ ys) t u ≡ noted p w ys t (noted p w xs t u)
noted-append p w [] ys t u = refl
noted-append p w (x ∷ xs) ys t u = noted-append p w xs ys t (if x == t then Some (with_use u p w) else u)

pub none_named : (code : List TacInstr) (t : ℕ) (o : Option Uses) → o ≡ None → MatchUses code (length code) t o →
    (n : ℕ) → NamesAt code t n → ⊥
none_named code t o e h n a = (subst (λ v. MatchUses code (length code) t v) e h) n a (at_within code n a.0 a.1)

pub some_used : (code : List TacInstr) (upto t : ℕ) (o : Option Uses) (u : Uses) → o ≡ Some u →
    MatchUses code upto t o → AreUses code upto t u
some_used code upto t o u e h = subst (λ v. MatchUses code upto t v) e h

-- an argument is one of the temps that are read
pub argument_in : (a b : Option ℕ) (i : TacInstr) (items : List ℕ) (n k : ℕ) → items ≡ arguments i →
    in_option a ++ (in_option b ++ arguments i) ≡ reads i → All (λ t. t < n) (reads i) → k < length items →
    get_or items k 0 < n
argument_in a b i items n k e parts all lt =
    let read : All (λ t. t < n) (in_option a ++ (in_option b ++ arguments i)) =
    subst (All (λ t. t < n)) (sym parts) all in
    let args : All (λ t. t < n) (arguments i) =
    all_right (λ t. t < n) (in_option b) (arguments i)
    (all_right (λ t. t < n) (in_option a) (in_option b ++ arguments i) read) in
    (subst (All (λ t. t < n)) (sym e) args) k 0 lt

-- one more of the temps that are named in turn
pub note_next : (p : Place) (w : Bool) (xs : List ℕ) (i : ℕ) (start uses after : List (Option Uses)) → i < length xs →
    get_or xs i 0 < length uses →
    after ≡ set uses (get_or xs i 0) (Some (with_use (get_or uses (get_or xs i 0) None) p w)) →
    ((k : ℕ) → k < length uses → get_or uses k None ≡ noted p w (take i xs) k (get_or start k None)) → (k : ℕ) →
    k < length after → get_or after k None ≡ noted p w (take (i + 1) xs) k (get_or start k None)
note_next p w xs i start uses after lt within e before k in' =
    let x = get_or xs i 0 in
    let len : length after ≡ length uses = ap length e ∙ length-set uses x _ in
    let was = before k (omega arith) in
    let more : noted p w (take (i + 1) xs) k (get_or start k None) ≡ noted p w (x ∷ []) k (get_or uses k None) =
    ap (λ ys. noted p w ys k (get_or start k None)) (take_more xs i 0 lt)
    ∙ noted-append p w (take i xs) (x ∷ []) k (get_or start k None) ∙ ap (λ o. noted p w (x ∷ []) k o) (sym was) in
    let here : get_or after k None ≡ noted p w (x ∷ []) k (get_or uses k None) =
    ap (λ ys. get_or ys k None) e ∙ set_noted p w uses x k within in
    here ∙ sym more
  where
    set_noted : (p : Place) (w : Bool) (uses : List (Option Uses)) (x k : ℕ) → x < length uses →
        get_or (set uses x (Some (with_use (get_or uses x None) p w))) k None
        ≡ noted p w (x ∷ []) k (get_or uses k None)
    set_noted p w uses x k lt = elim (cases_eq k x) [
      | inl s ↦ subst (λ m. get_or (set uses x (Some (with_use (get_or uses x None) p w))) m None
          ≡ noted p w (x ∷ []) m (get_or uses m None)) (sym s)
          (get_or-set_same uses x _ None lt
          ∙ sym (ap (λ b. if b then Some (with_use (get_or uses x None) p w) else get_or uses x None)
          (eq-eqb x x refl)))
      | inr ne ↦ get_or-set_other uses x k _ None ne
          ∙ sym (ap (λ b. if b then Some (with_use (get_or uses k None) p w) else get_or uses k None)
          (ne_eqb x k (λ s. ne (sym s))))
    ]
