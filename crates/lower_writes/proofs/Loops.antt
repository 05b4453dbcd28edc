-- The code of loops, which goes back to its top.
use Rattle.std.proofs.Common.{◌≡◌, ◌≢◌, ℕ, zero, suc, ◌+◌, ◌<◌, ◌≤◌, List, [], ◌∷◌}
use Rattle.std.proofs.Common.{subst, sym, arith, ◌∙◌}
use Rattle.std.proofs.lemmas.Option.{same_Some}
use Rattle.cheri_c_sem.specs.Tree.{Declared}
use Rattle.tac_ir.specs.Temps.{behind}
use Rattle.tac_ir.specs.declared.code.TacInstr.{TacInstr}
use Rattle.tac_ir.specs.declared.code.TacInstr.TheVariants as instr
use Rattle.lower_runs.specs.Operating.{Code}
use Rattle.lower_runs.specs.Expressions.{Mark, labelled}
use Rattle.lower_runs.specs.Statements.{Exits, in_loop, loop_code, repeat_code}
use Rattle.lower_runs.specs.Simulation.{IsPiece}
use Rattle.lower_runs.specs.States.{Scene}
use Rattle.lower_runs.proofs.Labels.{both_own, pass_label, found_label}
use Rattle.lower_writes.proofs.Waiting.{Only, only_often, only_nothing, step_label, step_turn}
use Rattle.lower_writes.proofs.Pieces.{Covers, Passes, Branches}
use Rattle.lower_writes.proofs.Parts.{Part, Stands, stands_in}

-- the end of a round, and what follows the loop
abbrev pub turn_code : ℕ → List TacInstr → List TacInstr
turn_code l r = instr.Turn ∷ instr.Jump l ∷ instr.Label (l + 2) ∷ r

-- what follows a loop's body
abbrev ending : ℕ → Code → Code
ending l f r = instr.Label (l + 1) ∷ f (turn_code l r)

to_end : (l n o : Mark) (f : Code) → IsPiece n o f → l.labels + 3 ≤ n.labels → (r : List TacInstr) →
    behind (l.labels + 2) (ending l.labels f r) ≡ r
to_end l n o f own room r =
    pass_label (l.labels + 1) (l.labels + 2) (f (turn_code l.labels r)) (λ u. absurd (omega arith))
    ∙ own.own (l.labels + 2) (turn_code l.labels r) (λ u. absurd (omega arith)) ∙ found_label (l.labels + 2) r

past_ending : (l n o : Mark) (f : Code) → IsPiece n o f → (q : ℕ) (r : List TacInstr) → (n.labels ≤ q → o.labels ≤ q) →
    q ≢ l.labels + 1 → q ≢ l.labels + 2 → behind q (ending l.labels f r) ≡ behind q r
past_ending l n o f own q r out next end =
    pass_label (l.labels + 1) q (f (turn_code l.labels r)) (λ u. next (sym u)) ∙ own.own q (turn_code l.labels r) out
    ∙ pass_label (l.labels + 2) q r (λ u. end (sym u))

-- the code inside a loop, in front of what follows its body, between the loop's label and its end
loop_piece : (l n o : Mark) (c f : Code) → IsPiece (labelled 3 l) n c → IsPiece n o f →
    IsPiece l o (λ r. instr.Label l.labels ∷ c (ending l.labels f r))
loop_piece l n o c f a b = record {
  temps = let x = a.temps in let y = b.temps in omega arith;
  labels = let x = a.labels in let y = b.labels in omega arith;
  own = λ q r h.
      let x = a.labels in let y = b.labels in
      pass_label l.labels q (c (ending l.labels f r)) (λ u. let v = h (omega arith) in omega arith)
      ∙ a.own q (ending l.labels f r) (λ u. let v = h (omega arith) in omega arith)
      ∙ past_ending l n o f b q r (λ u. h (omega arith)) (λ u. let v = h (omega arith) in omega arith)
      (λ u. let v = h (omega arith) in omega arith);
}

module _ (params : ℕ) (whole : List TacInstr) where
  turning : (ws : List ℕ) (l : ℕ) (r : List TacInstr) → behind l r ≡ [] → (j : ℕ)
      → ((i : ℕ) → j ≡ suc i → Only params whole i ws (behind l whole)) → Only params whole j ws (turn_code l r)
  turning ws l r none j again = step_turn params whole j ws l (instr.Label (l + 2) ∷ r)
      (subst (Only params whole j ws) (sym (pass_label (l + 2) l r (λ q. absurd (omega arith)) ∙ none))
      (only_nothing params whole j ws)) again

  -- a loop's rounds, each of which ends with a jump back
  rounds : (ws : List ℕ) (l : ℕ) (r inside : List TacInstr) → behind l whole ≡ inside → behind l r ≡ []
      → ((j : ℕ) → Only params whole j ws r → Only params whole j ws (turn_code l r) →
      Only params whole j ws inside)
      → (j : ℕ) → Only params whole j ws r → Only params whole j ws inside
  rounds ws l r inside is none round zero next =
      round zero next (turning ws l r none zero (λ i e. absurd (omega arith)))
  rounds ws l r inside is none round (suc j) next =
      let back : Only params whole j ws inside =
      rounds ws l r inside is none round j (only_often params whole j ws r next) in
      round (suc j) next (turning ws l r none (suc j) (λ i e. subst (λ z. Only params whole z ws (behind l whole))
      (let same : j ≡ i = omega arith in same) (subst (Only params whole j ws) (sym is) back)))

  module _ (g : Scene) (ds : List Declared) where
    -- a body, in front of a step or a test
    body_only : (l m n o : Mark) (d f : Code) → Part params whole g ds (in_loop (l.labels + 2) (l.labels + 1)) m n d →
        IsPiece n o f → l.labels + 3 ≤ m.labels → (j : ℕ) (ws : List ℕ) (here r : List TacInstr) →
        Covers params g ds ws → Stands params whole l o here r
        → ((q : ℕ) → m.labels ≤ q → q < n.labels → behind q here ≡ behind q (d (ending l.labels f r))) →
        Only params whole j ws r → Only params whole j ws (f (turn_code l.labels r)) →
        Only params whole j ws (d (ending l.labels f r))
    body_only l m n o d f b own room j ws here r k st found after steps =
        let mid : m.labels ≤ n.labels = b.piece.labels in
        let high : n.labels ≤ o.labels = own.labels in
        b.only j ws (ending l.labels f r) k
        (stands_in params whole l o m n here r (d (ending l.labels f r)) (ending l.labels f r) (omega arith) high found
        (λ q le lt. past_ending l n o f own q r (λ u. absurd (omega arith)) (λ u. absurd (omega arith))
        (λ u. absurd (omega arith))) st)
        (record {
          breaks = λ i eq. let same : l.labels + 2 ≡ i = same_Some (l.labels + 2) i eq in (
            omega arith,
            subst (λ z. Only params whole j ws (behind z (ending l.labels f r))) same
                (subst (Only params whole j ws) (sym (to_end l n o f own (omega arith) r)) after),
          );
          continues = λ i eq. let same : l.labels + 1 ≡ i = same_Some (l.labels + 1) i eq in (
            omega arith,
            subst (λ z. Only params whole j ws (behind z (ending l.labels f r))) same
                (subst (Only params whole j ws) (sym (found_label (l.labels + 1) (f (turn_code l.labels r)))) steps),
          );
        }) (step_label params whole j ws (l.labels + 1) (f (turn_code l.labels r)) steps)

    -- a loop does what its rounds do
    part_rounds : (x : Exits) (l n o : Mark) (c f : Code) → IsPiece (labelled 3 l) n c → IsPiece n o f
        → ((j : ℕ) (ws : List ℕ) (r : List TacInstr) → Covers params g ds ws →
        Stands params whole l o (instr.Label l.labels ∷ c (ending l.labels f r)) r → Only params whole j ws r →
        Only params whole j ws (turn_code l.labels r) → Only params whole j ws (c (ending l.labels f r)))
        → Part params whole g ds x l o (λ r. instr.Label l.labels ∷ c (ending l.labels f r))
    part_rounds x l n o c f a b round = record {
      piece = loop_piece l n o c f a b;
      only = λ often ws r k st leads next.
          let low = a.labels in let high = b.labels in
          step_label params whole often ws l.labels (c (ending l.labels f r))
          (rounds ws l.labels r (c (ending l.labels f r))
          (st.found l.labels (omega arith) (omega arith) ∙ found_label l.labels (c (ending l.labels f r)))
          (st.past l.labels (omega arith) (omega arith)) (λ j. round j ws r k st) often next);
    }

    -- a test, a body and a step
    pub part_loop : (x : Exits) (l m n o : Mark) (c d f : Code) →
        ((often : ℕ) → Branches params whole often g ds (l.labels + 2) (labelled 3 l) m c) →
        Part params whole g ds (in_loop (l.labels + 2) (l.labels + 1)) m n d
        → ((often : ℕ) → Passes params whole often g ds [] [] n o f) →
        Part params whole g ds x l o (loop_code l.labels c d f)
    part_loop x l m n o c d f a b e =
        let low : l.labels + 3 ≤ m.labels = (a 0).piece.labels in
        let mid : m.labels ≤ n.labels = b.piece.labels in
        part_rounds x l n o (λ r. c (d r)) f (both_own (labelled 3 l) m n c d (a 0).piece b.piece) (e 0).piece
        (λ j ws r k st after back. (a j).only ws (d (ending l.labels f r)) k
        (body_only l m n o d f b (e 0).piece low j ws (loop_code l.labels c d f r) r k st
        (λ q le lt. pass_label l.labels q (c (d (ending l.labels f r))) (λ u. absurd (omega arith))
        ∙ (a 0).piece.own q (d (ending l.labels f r)) (λ u. le)) after
        ((e j).only ws (turn_code l.labels r) k tt back))
        (subst (Only params whole j ws) (sym (b.piece.own (l.labels + 2) (ending l.labels f r)
        (λ u. absurd (omega arith)) ∙ to_end l n o f (e 0).piece (omega arith) r)) after))

    -- a body and a test
    pub part_repeat : (x : Exits) (l m n : Mark) (c d : Code) →
        Part params whole g ds (in_loop (l.labels + 2) (l.labels + 1)) (labelled 3 l) m d
        → ((often : ℕ) → Branches params whole often g ds (l.labels + 2) m n c) →
        Part params whole g ds x l n (repeat_code l.labels d c)
    part_repeat x l m n c d a b =
        let low : l.labels + 3 ≤ m.labels = a.piece.labels in
        part_rounds x l m n d c a.piece (b 0).piece
        (λ j ws r k st after back. body_only l (labelled 3 l) m n d c a (b 0).piece (omega arith) j ws
        (repeat_code l.labels d c r) r k st
        (λ q le lt. pass_label l.labels q (d (ending l.labels c r)) (λ u. absurd (omega arith))) after
        ((b j).only ws (turn_code l.labels r) k back
        (subst (Only params whole j ws) (sym (found_label (l.labels + 2) r)) after)))
