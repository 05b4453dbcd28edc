-- A tracked run is followed in both directions.
use Rattle.std.proofs.Common.{◌≡◌, ℕ, zero, suc, ◌+◌, ◌-◌, ◌<◌, ◌≤◌, Bool, true, false, List, [], ◌∷◌, length}
use Rattle.std.proofs.Common.{Option, Some, None, ◌⊎◌, inl, inr, refl, sym, ap, ◌∙◌, subst, ⊎_elim, arith}
use Rattle.std.proofs.Common.{if◌then◌else◌}
use Rattle.std.specs.Prelude.{slice_get}
use Rattle.std.proofs.lemmas.Bool.{cases_lt}
use Rattle.ck_base.specs.World.{World, Done, fails_after}
use Rattle.ck_base.specs.Runs.{Act, Goes, Puts, Reads, Ends, Limits, Stopped, stopped, with_put, with_read, act_in, run}
use Rattle.ck_base.specs.Calls.{BeginsWith}
use Rattle.ck_base.proofs.Fronts.{begins_refl, begins_trans}
use Rattle.tracked_runs.specs.Tracking.{Moment, Stepped, Next, Ended, moment, stepped, step, Reaches, Course, Finished}
use Rattle.tracked_runs.specs.Tracking.{Waiting, Outside, Tracks}

-- what is left of a run: the last moment, and its ending where it has one
pub record Final (S E : Type 0) : Type 0 where
  pub at : Moment S
  pub end : Option E

abbrev pub goes_on : {S E : Type 0} → (Moment S → Final S E) → Moment S → Stepped S E → Final S E
goes_on go m (Next n) = go n
goes_on go m (Ended e) = record { at = m; end = Some e }

abbrev pub end_or : {E : Type 0} → E → Option E → E
end_or e None = e
end_or e (Some f) = f

module _ {S E : Type 0} (limits : Limits E) (act : S → Act S E) (w : World) where
  abbrev pub final : ℕ → Moment S → Final S E
  final zero m = record { at = m; end = None }
  final (suc n) m = goes_on (final n) m (step limits act w m)

  abbrev as_stopped : Final S E → Stopped S E
  as_stopped f = stopped f.at.state f.at.done (end_or limits.steps f.end)

  if_put : (m : Moment S) (go : Moment S → Final S E) (n : Moment S) (b : Bool) →
      as_stopped (goes_on go m (if b then Ended limits.write_fault else Next n))
      ≡ (if b then stopped m.state m.done limits.write_fault else as_stopped (go n))
  if_put m go n true = refl
  if_put m go n false = refl

  if_read : (m : Moment S) (go : Moment S → Final S E) (n : Moment S) (b : Bool) →
      as_stopped (goes_on go m (if b then Ended limits.read_fault else Next n))
      ≡ (if b then stopped m.state m.done limits.read_fault else as_stopped (go n))
  if_read m go n true = refl
  if_read m go n false = refl

  run_by : (n : ℕ) (m : Moment S) → ((k : Moment S) → run limits act w n k.state k.done ≡ as_stopped (final n k)) →
      (a : Act S E)
      → act_in limits w m.state m.done (run limits act w n) a
      ≡ as_stopped (goes_on (final n) m (stepped limits w m.done a))
  run_by n m go (Goes s) = go (moment s m.done)
  run_by n m go (Puts b s) =
      let next = moment s (with_put m.done b) in
      ap (λ r. if fails_after w.failing_put (length m.done.output) then stopped m.state m.done limits.write_fault
      else r) (go next)
      ∙ sym (if_put m (final n) next (fails_after w.failing_put (length m.done.output)))
  run_by n m go (Reads to) =
      let next = moment (to (slice_get w.bytes m.done.reads)) (with_read m.done) in
      ap (λ r. if fails_after w.failing_read m.done.reads then stopped m.state m.done limits.read_fault else r)
      (go next)
      ∙ sym (if_read m (final n) next (fails_after w.failing_read m.done.reads))
  run_by n m go (Ends e) = refl

  -- the run of the machine is this one
  pub run_is : (n : ℕ) (m : Moment S) → run limits act w n m.state m.done ≡ as_stopped (final n m)
  unfolding run
  run_is zero m = refl
  run_is (suc n) m = run_by n m (run_is n) (act m.state)

  -- ---- a step only adds to the output

  abbrev output_of : Done → Stepped S E → List ℕ
  output_of d (Next m) = m.done.output
  output_of d (Ended e) = d.output

  if_grows : (d : Done) (e : E) (m : Moment S) (b : Bool) → BeginsWith m.done.output d.output →
      BeginsWith (output_of d (if b then Ended e else Next m)) d.output
  if_grows d e m true h = begins_refl d.output
  if_grows d e m false h = h

  act_grows : (d : Done) (a : Act S E) → BeginsWith (output_of d (stepped limits w d a)) d.output
  act_grows d (Goes s) = begins_refl d.output
  act_grows d (Puts b s) = if_grows d limits.write_fault (moment s (with_put d b))
      (fails_after w.failing_put (length d.output)) (b ∷ [], refl)
  act_grows d (Reads to) = if_grows d limits.read_fault (moment (to (slice_get w.bytes d.reads)) (with_read d))
      (fails_after w.failing_read d.reads) (begins_refl d.output)
  act_grows d (Ends e) = begins_refl d.output

  grows : (m n : Moment S) → step limits act w m ≡ Next n → BeginsWith n.done.output m.done.output
  grows m n h = subst (λ x. BeginsWith (output_of m.done x) m.done.output) h (act_grows m.done (act m.state))

  -- ---- runs and steps

  abbrev Leads : ℕ → Moment S → Moment S → Type 0
  Leads j s t = Reaches limits act w j s t

  final_reaches : (j n k : ℕ) (s t : Moment S) → n ≡ j + k → Leads j s t → final n s ≡ final k t
  final_reaches zero n k s t e r = let f : n ≡ k = omega arith in ap (λ i. final i s) f ∙ ap (λ u. final k u) r
  final_reaches (suc j) zero k s t e r = absurd (omega arith)
  final_reaches (suc j) (suc n) k s t e r =
      ap (λ v. goes_on (final n) s v) r.1 ∙ final_reaches j n k r.0 t (omega arith) r.2

  final_ended : (j n : ℕ) (s t : Moment S) (e : E) → j < n → Leads j s t → step limits act w t ≡ Ended e →
      final n s ≡ record { at = t; end = Some e }
  final_ended j n s t e lt r h =
      let at : n ≡ j + suc (n - suc j) = omega arith in
      final_reaches j n (suc (n - suc j)) s t at r ∙ ap (λ v. goes_on (final (n - suc j)) t v) h

  -- the first n of j steps
  cut : (n j : ℕ) (s t : Moment S) → n ≤ j → Leads j s t → (u : Moment S) × Leads n s u × Leads (j - n) u t
  cut zero j s t le r = let e : j ≡ j - 0 = omega arith in (s, refl, subst (λ i. Leads i s t) e r)
  cut (suc n) zero s t le r = absurd (omega arith)
  cut (suc n) (suc j) s t le r =
      let c = cut n j r.0 t (omega arith) r.2 in
      let e : j - n ≡ suc j - suc n = omega arith in
      (c.0, (r.0, r.1, c.1), subst (λ i. Leads i c.0 t) e c.2)

  final_cut : (n : ℕ) (s u : Moment S) → Leads n s u → final n s ≡ record { at = u; end = None }
  final_cut n s u r = final_reaches n n 0 s u (omega arith) r

  grows_over : (j : ℕ) (s t : Moment S) → Leads j s t → BeginsWith t.done.output s.done.output
  grows_over zero s t r = subst (λ (u : Moment S). BeginsWith u.done.output s.done.output) r (begins_refl s.done.output)
  grows_over (suc j) s t r =
      begins_trans s.done.output r.0.done.output t.done.output (grows s r.0 r.1) (grows_over j r.0 t r.2)

  grows_step : (n : ℕ) (s : Moment S) (v : Stepped S E) → step limits act w s ≡ v →
      ((t : Moment S) → BeginsWith (final n t).at.done.output t.done.output) →
      BeginsWith (goes_on (final n) s v).at.done.output s.done.output
  grows_step n s (Next t) h rest = begins_trans s.done.output t.done.output _ (grows s t h) (rest t)
  grows_step n s (Ended e) h rest = begins_refl s.done.output

  grows_final : (n : ℕ) (s : Moment S) → BeginsWith (final n s).at.done.output s.done.output
  grows_final zero s = begins_refl s.done.output
  grows_final (suc n) s = grows_step n s (step limits act w s) refl (grows_final n)

  -- the machine after n steps, where it goes on for j
  cut_final : (n j : ℕ) (s t : Moment S) → n ≤ j → Leads j s t →
      ((final n s).end ≡ None) × BeginsWith t.done.output (final n s).at.done.output
  cut_final n j s t le r =
      let c = cut n j s t le r in
      let e = final_cut n s c.0 c.1 in (
        ap (λ f. f.end) e,
        subst (λ (f : Final S E). BeginsWith t.done.output f.at.done.output) (sym e)
            (grows_over (j - n) c.0 t c.2),
      )

  -- the machine after more steps than it is known to make
  past_final : (n j : ℕ) (s t : Moment S) → j ≤ n → Leads j s t → BeginsWith (final n s).at.done.output t.done.output
  past_final n j s t le r =
      let e = final_reaches j n (n - j) s t (omega arith) r in
      subst (λ (f : Final S E). BeginsWith f.at.done.output t.done.output) (sym e) (grows_final (n - j) t)

  pub join : (j k : ℕ) (s t u : Moment S) → Leads j s t → Leads k t u → Leads (j + k) s u
  join zero k s t u r q = let e : k ≡ 0 + k = omega arith in
      subst (λ i. Leads i s u) e (subst (λ v. Leads k v u) (sym r) q)
  join (suc j) k s t u r q =
      let e : suc (j + k) ≡ suc j + k = omega arith in
      let x : Leads (suc (j + k)) s u = (r.0, r.1, join j k r.0 t u r.2 q) in
      subst (λ i. Leads i s u) e x

  module _ {F : Type 0} (Reports : E → F → Type 0) where
    abbrev Follows : ℕ → ℕ → Course F → Moment S → Type 0
    Follows m b o s = Tracks limits act w Reports m b o s

    -- where a run of as many turns as steps comes out so, what the machine has done after the steps
    abbrev pub Agrees : Course F → Final S E → Type 0
    Agrees (Finished d f) r =
        ((r.end ≡ None) × BeginsWith d.output r.at.done.output) ⊎
        ((e : E) × (r.end ≡ Some e) × Reports e f × (r.at.done ≡ d))
    Agrees (Waiting d) r = (r.end ≡ None) × BeginsWith d.output r.at.done.output
    Agrees (Outside d) r = ((r.end ≡ None) ×
        (BeginsWith d.output r.at.done.output ⊎ BeginsWith r.at.done.output d.output)) ⊎
        ((e : E) × (r.end ≡ Some e) × BeginsWith r.at.done.output d.output)

    -- where a run of m turns comes out so, what the machine has done after enough steps
    abbrev pub KeepsUp : Course F → Final S E → Type 0
    KeepsUp (Finished d f) r = BeginsWith r.at.done.output d.output × ((e : E) × (r.end ≡ Some e) × Reports e f)
    KeepsUp (Waiting d) r = BeginsWith r.at.done.output d.output
    KeepsUp (Outside d) r = BeginsWith r.at.done.output d.output

    pub agrees : (n b : ℕ) (o : Course F) (s : Moment S) → Follows n b o s → Agrees o (final n s)
    agrees n b (Finished d f) s (j, lt, t, e, r, h, rep, d_is) =
        ⊎_elim
        (λ more. let x = final_ended j n s t e more r h in
        inr (e, ap (λ v. v.end) x, rep, ap (λ (v : Final S E). v.at.done) x ∙ d_is))
        (λ le. let c = cut_final n j s t le r in
        inl (c.0, subst (λ (y : Done). BeginsWith y.output (final n s).at.done.output) d_is c.1))
        (cases_lt j n)
    agrees n b (Waiting d) s (j, ge, le, t, r, d_is) =
        let c = cut_final n j s t ge r in
        (c.0, subst (λ (y : Done). BeginsWith y.output (final n s).at.done.output) d_is c.1)
    agrees n b (Outside d) s (j, le, t, r, d_is) =
        ⊎_elim
        (λ more. let p = subst (λ (y : Done). BeginsWith (final n s).at.done.output y.output) d_is
        (past_final n j s t (omega arith) r) in
        outside_past (final n s).end refl p)
        (λ le. let c = cut_final n j s t le r in
        inl (c.0, inl (subst (λ (y : Done). BeginsWith y.output (final n s).at.done.output) d_is c.1)))
        (cases_lt j n)
      where
        outside_past : (o : Option E) → (final n s).end ≡ o → BeginsWith (final n s).at.done.output d.output →
            Agrees (Outside d) (final n s)
        outside_past None h p = inl (h, inr p)
        outside_past (Some e) h p = inr (e, h, p)

    pub keeps_up : (m b n : ℕ) (o : Course F) (s : Moment S) → b ≤ n → Follows m b o s → KeepsUp o (final n s)
    keeps_up m b n (Finished d f) s le (j, lt, t, e, r, h, rep, d_is) =
        let x = final_ended j n s t e (omega arith) r h in (
          subst (λ (y : Done). BeginsWith (final n s).at.done.output y.output) d_is
              (past_final n j s t (omega arith) r),
          (e, ap (λ v. v.end) x, rep),
        )
    keeps_up m b n (Waiting d) s le (j, ge, le1, t, r, d_is) =
        subst (λ (y : Done). BeginsWith (final n s).at.done.output y.output) d_is (past_final n j s t (omega arith) r)
    keeps_up m b n (Outside d) s le (j, le1, t, r, d_is) =
        subst (λ (y : Done). BeginsWith (final n s).at.done.output y.output) d_is (past_final n j s t (omega arith) r)

    -- a stretch of steps before what tracks; it may stand for a turn if it isn't empty
    pub after : (m n b d j : ℕ) (o : Course F) (s t : Moment S) → n ≤ j + m → j + b ≤ d → Leads j s t →
        Follows m b o t → Follows n d o s
    after m n b d j (Finished x f) s t ge le r (k, lt, u, e, q, h, rep, x_is) =
        (j + k, omega arith, u, e, join j k s t u r q, h, rep, x_is)
    after m n b d j (Waiting x) s t ge le r (k, lo, hi, u, q, x_is) =
        (j + k, omega arith, omega arith, u, join j k s t u r q, x_is)
    after m n b d j (Outside x) s t ge le r (k, hi, u, q, x_is) = (j + k, omega arith, u, join j k s t u r q, x_is)
