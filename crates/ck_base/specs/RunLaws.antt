-- A run that was done act by act over real objects is a run over the world of the call.
use Rattle.std.specs.Prelude.{◌≢◌, IfSome, ◌≡◌, ℕ, zero, suc, ◌+◌, ◌-◌, ◌^◌, ◌<◌, ◌≤◌, ◌⊎◌, min, Bool, true, false}
use Rattle.std.specs.Prelude.{cond, List, [], ◌∷◌, ◌++◌, length, take, drop, Option, Some, None, ⊤, slice_get, refl}
use Rattle.std.proofs.lemmas.Bool.Decides.{nat_tests}
use Rattle.std.proofs.Common.{eq-eqb, sym, ◌∙◌, ap, subst, inl, inr, arith, append_assoc}
use Rattle.std.proofs.lemmas.List.{append-nil, drop-drop, drop_min, length_push}
use Rattle.std.proofs.lemmas.Option.{same_Some, IfSome_then}
use Rattle.std.specs.Io.KnownBytes.{Appends, Keeps}
use Rattle.ck_base.specs.Outside.{Takes, AppendsPart}
use Rattle.ck_base.specs.World.{World, Done, nothing_done, fails_after, with_sure_output}
use Rattle.ck_base.specs.Runs.{Act, Goes, Puts, Reads, Ends, Limits, stopped, with_put, with_read, act_in, run, outcome}
use Rattle.ck_base.specs.Calls.{Seen, BeginsWith, PutFailed, ReadFailed, Acted, IsWorldOf, RanIn, IsRun, Grows, Counted}

-- the failing call comes after this many
abbrev pub Later : Option ℕ → ℕ → Type 0
Later None done = ⊤
Later (Some number) done = done < number

-- nothing fails in the world up to here
pub record Agrees (w : World) (bytes : List ℕ) (d : Done) : Type 0 where
  pub bytes_left : w.bytes ≡ bytes
  pub read : Later w.failing_read d.reads
  pub put : Later w.failing_put (length d.output)

-- the failing call is not the next one
pub not_next : (o : Option ℕ) (n : ℕ) → Later o (n + 1) → fails_after o n ≡ false
not_next None n h = refl
not_next (Some number) n h = grind (arith, nat_tests)

pub later_less : (o : Option ℕ) (m n : ℕ) → m ≤ n → Later o n → Later o m
later_less None m n le h = h
later_less (Some number) m n le h = omega arith

pub is_next : (n : ℕ) → fails_after (Some (n + 1)) n ≡ true
is_next n = eq-eqb (n + 1) (n + 1) refl

pub slice_get-drop : (l : List ℕ) (n : ℕ) → slice_get (drop n l) 0 ≡ slice_get l n
slice_get-drop l zero = refl
slice_get-drop [] (suc n) = refl
slice_get-drop (x ∷ l) (suc n) = slice_get-drop l n

pub IfSome-from : {A : Type 0} (o : Option A) (P : A → Type 0) → ((x : A) → o ≡ Some x → P x) → IfSome o P
IfSome-from None P h = tt
IfSome-from (Some x) P h = h x refl

pub Appends-nil : (a : Option (List ℕ)) → Appends a a []
Appends-nil None = tt
Appends-nil (Some a) = sym (append-nil a)

pub Keeps-Some : (a : List ℕ) (b : Option (List ℕ)) → Keeps (Some a) b → b ≡ Some a
Keeps-Some a None h = absurd h
Keeps-Some a (Some b) h = ap Some h

pub Appends-Appends : (a b c : Option (List ℕ)) (x y : List ℕ) → Appends a b x → Appends b c y → Appends a c (x ++ y)
Appends-Appends None b c x y p q = p
Appends-Appends (Some a) None c x y p q = absurd p
Appends-Appends (Some a) (Some b) None x y p q = q
Appends-Appends (Some a) (Some b) (Some c) x y p q = q ∙ ap (λ l. l ++ y) p ∙ append_assoc a x y

Grows-same : (a b : Option (List ℕ)) → b ≡ a → Grows a b
Grows-same a b e = ([], subst (λ x. Appends a x []) (sym e) (Appends-nil a))

Grows-Grows : (a b c : Option (List ℕ)) → Grows a b → Grows b c → Grows a c
Grows-Grows a b c p q = (p.0 ++ q.0, Appends-Appends a b c p.0 q.0 p.1 q.1)

-- a put that failed appended nothing, or its one byte
part_of : (a b c : Option (List ℕ)) (x : List ℕ) (byte : ℕ) (P : List ℕ → Type 0) → Appends a b x →
    AppendsPart b c (byte ∷ []) → P (x ++ byte ∷ []) →
    Appends a c x ⊎ ((byte : ℕ) × Appends a c (x ++ byte ∷ []) × P (x ++ byte ∷ []))
part_of a b c x byte P p (zero, q) h = inl (subst (λ l. Appends a c l) (append-nil x) (Appends-Appends a b c x [] p q))
part_of a b c x byte P p (suc zero, q) h = inr (byte, Appends-Appends a b c x (byte ∷ []) p q, h)
part_of a b c x byte P p (suc (suc m), q) h = inr (byte, Appends-Appends a b c x (byte ∷ []) p q, h)

module _ {S E : Type 0} (limits : Limits E) (act : S → Act S E) where
  -- one act
  pub run-suc : (w : World) (n : ℕ) (s : S) (d : Done) (a : Act S E) → act s ≡ a →
      run limits act w (suc n) s d ≡ act_in limits w s d (run limits act w n) a
  unfolding run
  run-suc w n s d a e = ap (λ x. act_in limits w s d (run limits act w n) x) e

  pub run-zero : (w : World) (s : S) (d : Done) → run limits act w 0 s d ≡ stopped s d limits.steps
  unfolding run
  run-zero w s d = refl

  pub run-goes : (w : World) (n : ℕ) (s s' : S) (d : Done) → act s ≡ Goes s' →
      run limits act w (suc n) s d ≡ run limits act w n s' d
  run-goes w n s s' d e = run-suc w n s d (Goes s') e

  pub run-ends : (w : World) (n : ℕ) (s : S) (d : Done) (x : E) → act s ≡ Ends x →
      run limits act w (suc n) s d ≡ stopped s d x
  run-ends w n s d x e = run-suc w n s d (Ends x) e

  pub run-puts : (w : World) (n : ℕ) (s s' : S) (d : Done) (b : ℕ) → act s ≡ Puts b s' →
      fails_after w.failing_put (length d.output) ≡ false →
      run limits act w (suc n) s d ≡ run limits act w n s' (with_put d b)
  run-puts w n s s' d b e f =
      run-suc w n s d (Puts b s') e
      ∙ ap (λ t. cond t (stopped s d limits.write_fault) (run limits act w n s' (with_put d b))) f

  pub run-put_fails : (w : World) (n : ℕ) (s s' : S) (d : Done) (b : ℕ) → act s ≡ Puts b s' →
      fails_after w.failing_put (length d.output) ≡ true → run limits act w (suc n) s d ≡ stopped s d limits.write_fault
  run-put_fails w n s s' d b e f =
      run-suc w n s d (Puts b s') e
      ∙ ap (λ t. cond t (stopped s d limits.write_fault) (run limits act w n s' (with_put d b))) f

  pub run-reads : (w : World) (n : ℕ) (s : S) (to : Option ℕ → S) (d : Done) → act s ≡ Reads to →
      fails_after w.failing_read d.reads ≡ false →
      run limits act w (suc n) s d ≡ run limits act w n (to (slice_get w.bytes d.reads)) (with_read d)
  run-reads w n s to d e f =
      run-suc w n s d (Reads to) e
      ∙ ap (λ t. cond t (stopped s d limits.read_fault)
      (run limits act w n (to (slice_get w.bytes d.reads)) (with_read d))) f

  pub run-read_fails : (w : World) (n : ℕ) (s : S) (to : Option ℕ → S) (d : Done) → act s ≡ Reads to →
      fails_after w.failing_read d.reads ≡ true → run limits act w (suc n) s d ≡ stopped s d limits.read_fault
  run-read_fails w n s to d e f =
      run-suc w n s d (Reads to) e
      ∙ ap (λ t. cond t (stopped s d limits.read_fault)
      (run limits act w n (to (slice_get w.bytes d.reads)) (with_read d))) f

  -- the output only grows
  grows_by : (w : World) (n : ℕ) (s : S) (d : Done) →
      ((s' : S) (d' : Done) → BeginsWith (run limits act w n s' d').done.output d'.output) → (a : Act S E) → act s ≡ a →
      BeginsWith (run limits act w (suc n) s d).done.output d.output
  grows_by w n s d again (Goes s') e =
      subst (λ r. BeginsWith r.done.output d.output) (sym (run-goes w n s s' d e)) (again s' d)
  grows_by w n s d again (Ends x) e =
      subst (λ r. BeginsWith r.done.output d.output) (sym (run-ends w n s d x e)) ([], sym (append-nil d.output))
  grows_by w n s d again (Puts b s') e = by_put (fails_after w.failing_put (length d.output)) refl
    where
      by_put : (t : Bool) → fails_after w.failing_put (length d.output) ≡ t →
          BeginsWith (run limits act w (suc n) s d).done.output d.output
      by_put true f = subst (λ r. BeginsWith r.done.output d.output) (sym (run-put_fails w n s s' d b e f))
          ([], sym (append-nil d.output))
      by_put false f =
          let g = again s' (with_put d b) in
          subst (λ r. BeginsWith r.done.output d.output) (sym (run-puts w n s s' d b e f))
          (b ∷ g.0, g.1 ∙ append_assoc d.output (b ∷ []) g.0)
  grows_by w n s d again (Reads to) e = by_read (fails_after w.failing_read d.reads) refl
    where
      by_read : (t : Bool) → fails_after w.failing_read d.reads ≡ t →
          BeginsWith (run limits act w (suc n) s d).done.output d.output
      by_read true f = subst (λ r. BeginsWith r.done.output d.output) (sym (run-read_fails w n s to d e f))
          ([], sym (append-nil d.output))
      by_read false f = subst (λ r. BeginsWith r.done.output d.output) (sym (run-reads w n s to d e f))
          (again (to (slice_get w.bytes d.reads)) (with_read d))

  pub grows : (w : World) (n : ℕ) (s : S) (d : Done) → BeginsWith (run limits act w n s d).done.output d.output
  grows w zero s d = subst (λ r. BeginsWith r.done.output d.output) (sym (run-zero w s d))
      ([], sym (append-nil d.output))
  grows w (suc n) s d = grows_by w n s d (λ s' d'. grows w n s' d') (act s) refl

  -- Up to now the run over real objects was the run over each world in which nothing has failed yet; k acts are left of
  -- n.
  pub record SoFar (n : ℕ) (first : S) (bytes : List ℕ) (before now : Seen) (s : S) (k : ℕ) : Type 0 where
    pub done : Done
    pub left : now.left ≡ Some (drop done.reads bytes)
    pub source_faults : now.source_faults ≡ before.source_faults
    pub held : Appends before.held now.held done.output
    pub sink_faults : now.sink_faults ≡ before.sink_faults
    pub same : (w : World) → Agrees w bytes done → run limits act w n first nothing_done ≡ run limits act w k s done

  -- one act that doesn't end the run
  pub SoFar-acted : (n : ℕ) (first : S) (bytes : List ℕ) (before now next : Seen) (s s' : S) (k : ℕ) (a : Act S E) →
      act s ≡ a → SoFar n first bytes before now s (suc k) → Acted limits a now next s s' None →
      SoFar n first bytes before next s' k
  SoFar-acted n first bytes before now next s s' k (Goes t) e sofar acted =
      record {
        done = sofar.done;
        left = ap (λ x. x.left) acted.2 ∙ sofar.left;
        source_faults = ap (λ x. x.source_faults) acted.2 ∙ sofar.source_faults;
        held = subst (λ x. Appends before.held x.held sofar.done.output) (sym acted.2) sofar.held;
        sink_faults = ap (λ x. x.sink_faults) acted.2 ∙ sofar.sink_faults;
        same = λ w g. sofar.same w g ∙ run-goes w k s t sofar.done e
            ∙ ap (λ x. run limits act w k x sofar.done) (sym acted.1);
      }
  SoFar-acted n first bytes before now next s s' k (Ends x) e sofar acted =
      absurd (let h : None ≡ Some x = acted.0 in cc)
  SoFar-acted n first bytes before now next s s' k (Puts b t) e sofar (inl acted) =
      let d = sofar.done in
      record {
        done = with_put d b;
        left = acted.2.left ∙ sofar.left;
        source_faults = acted.2.source_faults ∙ sofar.source_faults;
        held = Appends-Appends before.held now.held next.held d.output (b ∷ []) sofar.held acted.2.held;
        sink_faults = acted.2.sink_faults ∙ sofar.sink_faults;
        same = λ w g.
            let later : Later w.failing_put (length d.output + 1) =
            subst (λ x. Later w.failing_put x) (length_push d.output b) g.put in
            let g' : Agrees w bytes d =
            record {
              bytes_left = g.bytes_left;
              read = g.read;
              put = later_less w.failing_put (length d.output) (length d.output + 1) (omega arith) later;
            } in
            sofar.same w g' ∙ run-puts w k s t d b e (not_next w.failing_put (length d.output) later)
            ∙ ap (λ x. run limits act w k x (with_put d b)) (sym acted.1);
      }
  SoFar-acted n first bytes before now next s s' k (Puts b t) e sofar (inr acted) =
      absurd (let h : None ≡ Some limits.write_fault = acted.0 in cc)
  SoFar-acted n first bytes before now next s s' k (Reads to) e sofar (inl acted) =
      let d = sofar.done in
      let took : Takes (Some (drop d.reads bytes)) next.left acted.0 =
      subst (λ x. Takes x next.left acted.0) sofar.left acted.3.left in
      record {
        done = with_read d;
        left = took.1 ∙ ap Some (drop-drop 1 d.reads bytes);
        source_faults = acted.3.source_faults ∙ sofar.source_faults;
        held = subst (λ x. Appends before.held x d.output) (sym acted.3.held) sofar.held;
        sink_faults = acted.3.sink_faults ∙ sofar.sink_faults;
        same = λ w g.
            let later : Later w.failing_read (d.reads + 1) = g.read in
            let g' : Agrees w bytes d =
            record {
              bytes_left = g.bytes_left;
              read = later_less w.failing_read d.reads (d.reads + 1) (omega arith) later;
              put = g.put;
            } in
            let answer : slice_get w.bytes d.reads ≡ acted.0 =
            ap (λ l. slice_get l d.reads) g.bytes_left ∙ sym (slice_get-drop bytes d.reads) ∙ sym took.0 in
            sofar.same w g' ∙ run-reads w k s to d e (not_next w.failing_read d.reads later)
            ∙ ap (λ x. run limits act w k (to x) (with_read d)) answer
            ∙ ap (λ x. run limits act w k x (with_read d)) (sym acted.2);
      }
  SoFar-acted n first bytes before now next s s' k (Reads to) e sofar (inr acted) =
      absurd (let h : None ≡ Some limits.read_fault = acted.0 in cc)

  -- before the first act
  pub SoFar-first : (n : ℕ) (first : S) (bytes : List ℕ) (before : Seen) → before.left ≡ Some bytes →
      SoFar n first bytes before before first n
  SoFar-first n first bytes before left = record {
    done = nothing_done;
    left = left;
    source_faults = refl;
    held = Appends-nil before.held;
    sink_faults = refl;
    same = λ w g. refl;
  }

  module _ {X : Type 0} (wanted : S → E → X) (n : ℕ) (first : S) (bytes : List ℕ) (before : Seen) where
    -- a run that stopped so in this world
    finish : (next : Seen) (s : S) (d : Done) (x : E) (w : World) → w.bytes ≡ bytes →
        run limits act w n first nothing_done ≡ stopped s d x → next.left ≡ Some (drop d.reads bytes) →
        IsWorldOf w bytes (min d.reads (length w.bytes)) d.output before next →
        (next.sink_faults ≡ before.sink_faults → Appends before.held next.held d.output) →
        (before.sink_faults < next.sink_faults →
        Appends before.held next.held d.output ⊎
        ((byte : ℕ) × Appends before.held next.held (d.output ++ byte ∷ []) ×
        BeginsWith (outcome limits act wanted first n (with_sure_output w)).output (d.output ++ byte ∷ []))) →
        RanIn (outcome limits act wanted first n) bytes before next (wanted s x)
    finish next s d x w same_bytes r left is_world whole part = record {
      world = w;
      of_call = subst (λ r. IsWorldOf w bytes (min r.done.reads (length w.bytes)) r.done.output before next)
          (sym r) is_world;
      ends = ap (λ r. wanted r.state r.ending) r;
      takes = subst (λ r. next.left ≡ Some (drop (min r.done.reads (length w.bytes)) bytes)) (sym r)
          (left ∙ ap Some (sym (subst (λ l. drop (min d.reads (length l)) bytes ≡ drop d.reads bytes) (sym same_bytes)
          (drop_min d.reads bytes))));
      gained = record {
        whole = λ h. subst (λ r. Appends before.held next.held r.done.output) (sym r) (whole h);
        part = λ h. subst (λ r. Appends before.held next.held r.done.output ⊎
            ((byte : ℕ) × Appends before.held next.held (r.done.output ++ byte ∷ []) ×
            BeginsWith (outcome limits act wanted first n (with_sure_output w)).output
            (r.done.output ++ byte ∷ []))) (sym r) (part h);
      };
    }

    -- nothing failed
    finish_sure : (now : Seen) (s s' : S) (k : ℕ) (x : E) → (sofar : SoFar n first bytes before now s k) →
        ((w : World) → run limits act w k s sofar.done ≡ stopped s' sofar.done x) →
        RanIn (outcome limits act wanted first n) bytes before now (wanted s' x)
    finish_sure now s s' k x sofar stops =
        let d = sofar.done in
        let w : World = record { bytes = bytes; failing_read = None; failing_put = None } in
        let g : Agrees w bytes d = record { bytes_left = refl; read = tt; put = tt } in
        let world : IsWorldOf w bytes (min d.reads (length bytes)) d.output before now = record {
          bytes_left = refl;
          sure_source = λ h. refl;
          failing_read = λ h. absurd (omega (arith, sofar.source_faults));
          sure_sink = λ h. refl;
          failing_put = λ h. absurd (omega (arith, sofar.sink_faults));
        } in
        finish now s' d x w refl (sofar.same w g ∙ stops w) sofar.left world (λ h. sofar.held) (λ h. inl sofar.held)

    -- all the acts were done
    pub RanIn-all : (now : Seen) (s : S) → SoFar n first bytes before now s 0 →
        RanIn (outcome limits act wanted first n) bytes before now (wanted s limits.steps)
    RanIn-all now s sofar = finish_sure now s s 0 limits.steps sofar (λ w. run-zero w s sofar.done)

    put_failed : (now next : Seen) (s s' : S) (k : ℕ) (b : ℕ) (t : S) → act s ≡ Puts b t →
        before.sink_faults < 2 ^ 64 - 1 → SoFar n first bytes before now s (suc k) → s' ≡ s → PutFailed now next b →
        RanIn (outcome limits act wanted first n) bytes before next (wanted s' limits.write_fault)
    put_failed now next s s' k b t e room sofar same_state failed =
        let d = sofar.done in
        let w : World = record { bytes = bytes; failing_read = None; failing_put = Some (length d.output + 1) } in
        let g : Agrees w bytes d = record { bytes_left = refl; read = tt; put = omega arith } in
        let rises : now.sink_faults < next.sink_faults = failed.sink_faults.more (omega (arith, sofar.sink_faults)) in
        let stops : run limits act w n first nothing_done ≡ stopped s' d limits.write_fault =
        sofar.same w g ∙ run-put_fails w k s t d b e (is_next (length d.output))
        ∙ ap (λ x. stopped x d limits.write_fault) (sym same_state) in
        let world : IsWorldOf w bytes (min d.reads (length bytes)) d.output before next = record {
          bytes_left = refl;
          sure_source = λ h. refl;
          failing_read = λ h. absurd (omega (arith, sofar.source_faults, failed.source_faults));
          sure_sink = λ h. absurd (omega (arith, sofar.sink_faults));
          failing_put = λ h. refl;
        } in
        let sure : World = record { bytes = bytes; failing_read = None; failing_put = None } in
        let gs : Agrees sure bytes d = record { bytes_left = refl; read = tt; put = tt } in
        let goes : run limits act sure n first nothing_done ≡ run limits act sure k t (with_put d b) =
        sofar.same sure gs ∙ run-puts sure k s t d b e refl in
        let begins : BeginsWith (run limits act sure n first nothing_done).done.output (d.output ++ b ∷ []) =
        subst (λ r. BeginsWith r.done.output (d.output ++ b ∷ [])) (sym goes) (grows sure k t (with_put d b)) in
        finish next s' d limits.write_fault w refl stops (failed.left ∙ sofar.left) world
        (λ h. absurd (omega (arith, sofar.sink_faults)))
        (λ h. part_of before.held now.held next.held d.output b
        (BeginsWith (run limits act sure n first nothing_done).done.output) sofar.held failed.held begins)

    read_failed : (now next : Seen) (s s' : S) (k : ℕ) (to : Option ℕ → S) → act s ≡ Reads to →
        before.source_faults < 2 ^ 64 - 1 → SoFar n first bytes before now s (suc k) → s' ≡ s → ReadFailed now next →
        RanIn (outcome limits act wanted first n) bytes before next (wanted s' limits.read_fault)
    read_failed now next s s' k to e room sofar same_state failed =
        let d = sofar.done in
        let w : World = record { bytes = bytes; failing_read = Some (d.reads + 1); failing_put = None } in
        let g : Agrees w bytes d = record { bytes_left = refl; read = omega arith; put = tt } in
        let rises : now.source_faults < next.source_faults =
        failed.source_faults.more (omega (arith, sofar.source_faults)) in
        let stops : run limits act w n first nothing_done ≡ stopped s' d limits.read_fault =
        sofar.same w g ∙ run-read_fails w k s to d e (is_next d.reads)
        ∙ ap (λ x. stopped x d limits.read_fault) (sym same_state) in
        let world : IsWorldOf w bytes (min d.reads (length bytes)) d.output before next = record {
          bytes_left = refl;
          sure_source = λ h. absurd (omega (arith, sofar.source_faults));
          failing_read = λ h. (d.reads, refl, refl);
          sure_sink = λ h. refl;
          failing_put = λ h. absurd (omega (arith, sofar.sink_faults, failed.sink_faults));
        } in
        let held : Appends before.held next.held d.output =
        subst (λ x. Appends before.held x d.output) (sym failed.held) sofar.held in
        let left : next.left ≡ Some (drop d.reads bytes) =
        Keeps-Some (drop d.reads bytes) next.left (subst (λ x. Keeps x next.left) sofar.left failed.left) in
        finish next s' d limits.read_fault w refl stops left world (λ h. held) (λ h. inl held)

    -- one act that ends the run
    pub RanIn-acted : (now next : Seen) (s s' : S) (k : ℕ) (x : E) (a : Act S E) → act s ≡ a →
        before.source_faults < 2 ^ 64 - 1 → before.sink_faults < 2 ^ 64 - 1 → SoFar n first bytes before now s (suc k) →
        Acted limits a now next s s' (Some x) →
        RanIn (outcome limits act wanted first n) bytes before next (wanted s' x)
    RanIn-acted now next s s' k x (Goes t) e in_room out_room sofar acted =
        absurd (let h : Some x ≡ None = acted.0 in cc)
    RanIn-acted now next s s' k x (Ends y) e in_room out_room sofar acted =
        let same : x ≡ y = same_Some x y acted.0 in
        subst (λ next. RanIn (outcome limits act wanted first n) bytes before next (wanted s' x)) (sym acted.2)
        (finish_sure now s s' (suc k) x sofar (λ w. run-ends w k s sofar.done y e
        ∙ ap (λ z. stopped s sofar.done z) (sym same) ∙ ap (λ z. stopped z sofar.done x) (sym acted.1)))
    RanIn-acted now next s s' k x (Puts b t) e in_room out_room sofar (inl acted) =
        absurd (let h : Some x ≡ None = acted.0 in cc)
    RanIn-acted now next s s' k x (Puts b t) e in_room out_room sofar (inr acted) =
        subst (λ y. RanIn (outcome limits act wanted first n) bytes before next (wanted s' y))
        (sym (same_Some x limits.write_fault acted.0))
        (put_failed now next s s' k b t e out_room sofar acted.1 acted.2)
    RanIn-acted now next s s' k x (Reads to) e in_room out_room sofar (inl acted) =
        absurd (let h : Some x ≡ None = acted.1 in cc)
    RanIn-acted now next s s' k x (Reads to) e in_room out_room sofar (inr acted) =
        subst (λ y. RanIn (outcome limits act wanted first n) bytes before next (wanted s' y))
        (sym (same_Some x limits.read_fault acted.0))
        (read_failed now next s s' k to e in_room sofar acted.1 acted.2)

  -- an act only appends to what the sink holds
  acted_grows : (now next : Seen) (s s' : S) (o : Option E) (a : Act S E) → Acted limits a now next s s' o →
      Grows now.held next.held
  acted_grows now next s s' o (Goes t) acted = Grows-same now.held next.held (ap (λ x. x.held) acted.2)
  acted_grows now next s s' o (Ends x) acted = Grows-same now.held next.held (ap (λ x. x.held) acted.2)
  acted_grows now next s s' o (Puts b t) (inl acted) = (b ∷ [], acted.2.held)
  acted_grows now next s s' o (Puts b t) (inr acted) = (take acted.2.held.0 (b ∷ []), acted.2.held.1)
  acted_grows now next s s' o (Reads to) (inl acted) = Grows-same now.held next.held acted.3.held
  acted_grows now next s s' o (Reads to) (inr acted) = Grows-same now.held next.held acted.2.held

  -- A run over real objects that goes on: no count has risen, what the sink holds only grew, and where the source tells
  -- its bytes it is a run over its worlds.
  pub record Running (n : ℕ) (first : S) (before now : Seen) (s : S) (k : ℕ) : Type 0 where
    pub source_faults : now.source_faults ≡ before.source_faults
    pub sink_faults : now.sink_faults ≡ before.sink_faults
    pub grows : Grows before.held now.held
    pub sofar : (bytes : List ℕ) → before.left ≡ Some bytes → SoFar n first bytes before now s k

  -- The program's own endings are no faults of the outside.
  pub record HasOwnEndings : Type 0 where
    pub read : (s : S) → act s ≢ Ends limits.read_fault
    pub write : (s : S) → act s ≢ Ends limits.write_fault
    pub apart : limits.read_fault ≢ limits.write_fault
    pub steps_read : limits.steps ≢ limits.read_fault
    pub steps_write : limits.steps ≢ limits.write_fault

  pub Running-first : (n : ℕ) (first : S) (before : Seen) → Running n first before before first n
  Running-first n first before =
      record {
        source_faults = refl;
        sink_faults = refl;
        grows = Grows-same before.held before.held refl;
        sofar = λ bytes left. SoFar-first n first bytes before left;
      }

  -- an act that goes on leaves the counts
  acted_counts : (now next : Seen) (s s' : S) (a : Act S E) → Acted limits a now next s s' None →
      (next.source_faults ≡ now.source_faults) × (next.sink_faults ≡ now.sink_faults)
  acted_counts now next s s' (Goes t) acted = (ap (λ x. x.source_faults) acted.2, ap (λ x. x.sink_faults) acted.2)
  acted_counts now next s s' (Ends x) acted = absurd (let h : None ≡ Some x = acted.0 in cc)
  acted_counts now next s s' (Puts b t) (inl acted) = (acted.2.source_faults, acted.2.sink_faults)
  acted_counts now next s s' (Puts b t) (inr acted) = absurd (let h : None ≡ Some limits.write_fault = acted.0 in cc)
  acted_counts now next s s' (Reads to) (inl acted) = (acted.3.source_faults, acted.3.sink_faults)
  acted_counts now next s s' (Reads to) (inr acted) = absurd (let h : None ≡ Some limits.read_fault = acted.0 in cc)

  pub Running-acted : (n : ℕ) (first : S) (before now next : Seen) (s s' : S) (k : ℕ) →
      Running n first before now s (suc k) → Acted limits (act s) now next s s' None → Running n first before next s' k
  Running-acted n first before now next s s' k running acted =
      let counts = acted_counts now next s s' (act s) acted in
      record {
        source_faults = counts.0 ∙ running.source_faults;
        sink_faults = counts.1 ∙ running.sink_faults;
        grows = Grows-Grows before.held now.held next.held running.grows (acted_grows now next s s' None (act s) acted);
        sofar = λ bytes left. SoFar-acted n first bytes before now next s s' k (act s) refl
            (running.sofar bytes left) acted;
      }

  -- an ending that leaves the counts and is no fault
  no_fault : (before next : Seen) (x : E) → next.source_faults ≡ before.source_faults →
      next.sink_faults ≡ before.sink_faults → x ≢ limits.read_fault → x ≢ limits.write_fault →
      Grows before.held next.held → Counted limits before next x
  no_fault before next x source sink not_read not_write grows = record {
    source = omega arith;
    sink = omega arith;
    read_fault = (λ h. absurd (not_read h), λ h. absurd (omega arith));
    write_fault = (λ h. absurd (not_write h), λ h. absurd (omega arith));
    grows = grows;
  }

  Counted-acted : HasOwnEndings → (before now next : Seen) (s s' : S) (x : E) (a : Act S E) → act s ≡ a →
      before.source_faults < 2 ^ 64 - 1 → before.sink_faults < 2 ^ 64 - 1 → now.source_faults ≡ before.source_faults →
      now.sink_faults ≡ before.sink_faults → Grows before.held next.held → Acted limits a now next s s' (Some x) →
      Counted limits before next x
  Counted-acted own before now next s s' x (Goes t) e in_room out_room source sink grows acted =
      absurd (let h : Some x ≡ None = acted.0 in cc)
  Counted-acted own before now next s s' x (Ends y) e in_room out_room source sink grows acted =
      let same : x ≡ y = same_Some x y acted.0 in
      no_fault before next x (ap (λ q. q.source_faults) acted.2 ∙ source) (ap (λ q. q.sink_faults) acted.2 ∙ sink)
      (λ h. own.read s (e ∙ ap Ends (sym same ∙ h)))
      (λ h. own.write s (e ∙ ap Ends (sym same ∙ h))) grows
  Counted-acted own before now next s s' x (Puts b t) e in_room out_room source sink grows (inl acted) =
      absurd (let h : Some x ≡ None = acted.0 in cc)
  Counted-acted own before now next s s' x (Puts b t) e in_room out_room source sink grows (inr acted) =
      let same : x ≡ limits.write_fault = same_Some x limits.write_fault acted.0 in
      let rises : now.sink_faults < next.sink_faults = acted.2.sink_faults.more (omega arith) in
      let keeps : next.source_faults ≡ now.source_faults = acted.2.source_faults in
      record {
        source = omega arith;
        sink = omega arith;
        read_fault = (λ h. absurd (own.apart (sym h ∙ same)), λ h. absurd (omega arith));
        write_fault = (λ h. omega arith, λ h. same);
        grows = grows;
      }
  Counted-acted own before now next s s' x (Reads to) e in_room out_room source sink grows (inl acted) =
      absurd (let h : Some x ≡ None = acted.1 in cc)
  Counted-acted own before now next s s' x (Reads to) e in_room out_room source sink grows (inr acted) =
      let same : x ≡ limits.read_fault = same_Some x limits.read_fault acted.0 in
      let rises : now.source_faults < next.source_faults = acted.2.source_faults.more (omega arith) in
      let keeps : next.sink_faults ≡ now.sink_faults = acted.2.sink_faults in
      record {
        source = omega arith;
        sink = omega arith;
        read_fault = (λ h. omega arith, λ h. same);
        write_fault = (λ h. absurd (own.apart (sym same ∙ h)), λ h. absurd (omega arith));
        grows = grows;
      }

  -- the run ends with an act
  pub run_ended : HasOwnEndings →
      {X : Type 0} (wanted : S → E → X) (n : ℕ) (first : S) (before now next : Seen) (s s' : S) (k : ℕ) (x : E) →
      before.source_faults < 2 ^ 64 - 1 → before.sink_faults < 2 ^ 64 - 1 → Running n first before now s (suc k) →
      Acted limits (act s) now next s s' (Some x) →
      IsRun (outcome limits act wanted first n) before next (wanted s' x) × Counted limits before next x
  run_ended own wanted n first before now next s s' k x in_room out_room running acted = (
    IfSome-from before.left (λ bytes. RanIn (outcome limits act wanted first n) bytes before next (wanted s' x))
        (λ bytes left. RanIn-acted wanted n first bytes before now next s s' k x (act s) refl in_room out_room
        (running.sofar bytes left) acted),
    Counted-acted own before now next s s' x (act s) refl in_room out_room running.source_faults running.sink_faults
        (Grows-Grows before.held now.held next.held running.grows (acted_grows now next s s' (Some x) (act s) acted))
        acted,
  )

  -- the run did all its acts
  pub run_all : HasOwnEndings → {X : Type 0} (wanted : S → E → X) (n : ℕ) (first : S) (before now : Seen) (s : S) →
      Running n first before now s 0 →
      IsRun (outcome limits act wanted first n) before now (wanted s limits.steps) ×
      Counted limits before now limits.steps
  run_all own wanted n first before now s running = (
    IfSome-from before.left (λ bytes. RanIn (outcome limits act wanted first n) bytes before now
        (wanted s limits.steps)) (λ bytes left.
        RanIn-all wanted n first bytes before now s (running.sofar bytes left)),
    no_fault before now limits.steps running.source_faults running.sink_faults own.steps_read own.steps_write
        running.grows,
  )

-- a run of which less is wanted
pub IsRun-less : {S E X Y : Type 0} (limits : Limits E) (act : S → Act S E) (wanted : S → E → X) (less : X → Y) (n : ℕ)
    (first : S) (before after : Seen) (x : X) → IsRun (outcome limits act wanted first n) before after x →
    IsRun (outcome limits act (λ s e. less (wanted s e)) first n) before after (less x)
IsRun-less limits act wanted less n first before after x run = IfSome_then before.left run (λ bytes r. record {
  world = r.world;
  of_call = record {
    bytes_left = r.of_call.bytes_left;
    sure_source = r.of_call.sure_source;
    failing_read = r.of_call.failing_read;
    sure_sink = r.of_call.sure_sink;
    failing_put = r.of_call.failing_put;
  };
  ends = ap less r.ends;
  takes = r.takes;
  gained = record { whole = r.gained.whole; part = r.gained.part };
})
