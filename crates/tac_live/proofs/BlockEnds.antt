-- The first and the last instruction of a block, from how far loops reach.
use Rattle.std.proofs.Common.{◌≡◌, ℕ, zero, suc, ◌+◌, ◌-◌, ◌<◌, ◌≤◌, max, List, length, inl, inr, refl, sym, subst}
use Rattle.std.proofs.Common.{arith}
use Rattle.std.specs.Prelude.{slice_index}
use Rattle.std.proofs.lemmas.Bool.{cases_eq, cases_lt}
use Rattle.tac_ir.specs.Intervals.{IsLoop}
use Rattle.tac_ir.specs.declared.code.TacInstr.{TacInstr}
use Rattle.tac_live.proofs.Numbers.{at_within}
use Rattle.tac_live.specs.Loops.{AreReaches, IsTop, AreTops, IsStart, IsEnd, IsClosed, IsBlock, AreStarts, AreEnds}
use Rattle.tac_live.specs.Loops.{AreBlocks}

-- ---- how far loops reach

-- the farthest of those that begin before a number
pub record IsTopBelow (reach : List ℕ) (n top : ℕ) : Type 0 where
  pub none : n ≡ 0 → top ≡ 0
  pub some : (m : ℕ) → suc m ≡ n → IsTop reach m top

module _ (reach : List ℕ) (top : ℕ) where
  top_start : (n : ℕ) → n ≡ 0 → top ≡ 0 → IsTop reach n (max top (slice_index reach n))
  top_start n e z = record {
    above = λ m le. let s : m ≡ n = omega arith in
        subst (λ k. slice_index reach k ≤ max top (slice_index reach n)) (sym s) (omega arith);
    reached = (n, omega arith, omega arith);
  }

  top_next : (m n : ℕ) → suc m ≡ n → IsTop reach m top → IsTop reach n (max top (slice_index reach n))
  top_next m n e h = record {
    above = λ k le. elim (cases_eq k n) [
      | inl s ↦ subst (λ j. slice_index reach j ≤ max top (slice_index reach n)) (sym s) (omega arith)
      | inr ne ↦ let b = h.above k (omega arith) in omega arith
    ];
    reached = elim (cases_lt top (slice_index reach n)) [
      | inl l ↦ (n, omega arith, omega arith)
      | inr l ↦ let r = h.reached in (r.0, let b = r.1 in omega arith, let b = r.2 in omega arith)
    ];
  }

  pub top_here : (n : ℕ) → IsTopBelow reach n top → IsTop reach n (max top (slice_index reach n))
  top_here zero h = top_start zero refl (h.none refl)
  top_here (suc m) h = top_next m (suc m) refl (h.some m refl)

pub top_below : (reach : List ℕ) (n next top : ℕ) → next ≡ suc n → IsTop reach n top → IsTopBelow reach next top
top_below reach n next top s h =
    record {
      none = λ e. absurd (omega arith);
      some = λ m e. let q : n ≡ m = omega arith in
          subst (λ k. IsTop reach k top) q h;
    }

-- ---- the first of a block

-- the first of the block of the instruction before a number
pub record IsStartBelow (tops : List ℕ) (n first top : ℕ) : Type 0 where
  pub none : n ≡ 0 → (first ≡ 0) × (top ≡ 0)
  pub some : (m : ℕ) → suc m ≡ n → IsStart tops m first × (top ≡ slice_index tops m)

pub start_below : (tops : List ℕ) (n next first top : ℕ) → next ≡ suc n → IsStart tops n first →
    top ≡ slice_index tops n → IsStartBelow tops next first top
start_below tops n next first top up h e = record {
  none = λ z. absurd (omega arith);
  some = λ m s. let q : n ≡ m = omega arith in
      (subst (λ k. IsStart tops k first) q h, subst (λ k. top ≡ slice_index tops k) q e);
}

-- no loop goes on to a number
pub start_here : (tops : List ℕ) (n first top : ℕ) → IsStartBelow tops n first top → top < n → IsStart tops n n
start_here tops n first top h below = record {
  upto = omega arith;
  cut = λ k e. let s = (h.some k e).1 in omega arith;
  joined = λ k a b. absurd (omega arith);
}

-- one does
pub start_on : (tops : List ℕ) (n first top : ℕ) → IsStartBelow tops n first top → n ≤ top → IsStart tops n first
start_on tops zero first top h on =
    let z = (h.none refl).0 in
    record { upto = omega arith; cut = λ k e. absurd (omega arith); joined = λ k a b. absurd (omega arith) }
start_on tops (suc m) first top h on =
    let before = (h.some m refl).0 in
    let t = (h.some m refl).1 in
    record {
      upto = let u = before.upto in omega arith;
      cut = before.cut;
      joined = λ k a b. elim (cases_eq k m) [
        | inl s ↦ subst (λ j. j < slice_index tops j) (sym s) (omega arith)
        | inr ne ↦ before.joined k a (omega arith)
      ];
    }

-- ---- the last of a block

-- ---- blocks

module _ (code : List TacInstr) (reach tops : List ℕ) (r : AreReaches code (length code) reach)
    (same : length tops ≡ length reach) (t : AreTops reach tops) where
  -- a loop that goes on behind an instruction
  crossing : (k : ℕ) → k < length tops → k < slice_index tops k →
      (m : ℕ) × (m ≤ k) × IsLoop code m (slice_index reach m) × (k < slice_index reach m)
  crossing k within on =
      let x = (t k within).reached in
      let m_below = x.1 in
      let reached = x.2 in
      let further : k < slice_index reach x.0 = omega arith in
      (x.0, m_below, r.loops x.0 (omega arith), further)

  -- each loop ends no farther than its reach
  long : (from to : ℕ) → IsLoop code from to → to ≤ slice_index reach from
  long from to l = r.longest from to l (at_within code to l.jump l.ends)

  module _ (n first last a b : ℕ) (s : IsStart tops n first) (e : IsEnd tops n last) (closed : IsClosed code a b)
      (low : a ≤ n) (high : n ≤ b) where
    least_first : (d k : ℕ) → k + d ≡ n → first ≤ k → a ≤ k
    least_first zero k eq f = omega arith
    least_first (suc d) k eq f =
        let next : a ≤ suc k = least_first d (suc k) (omega arith) (omega arith) in
        let w = e.within in
        let fr = e.from in
        let c = crossing k (omega arith) (s.joined k f (omega arith)) in
        let below = c.1 in
        let over = c.3 in
        let got = closed c.0 (slice_index reach c.0) c.2 (omega arith) (omega arith) in
        let g = got.0 in
        omega arith

    least_last : (d k : ℕ) → n + d ≡ k → k ≤ last → k ≤ b
    least_last zero k eq f = omega arith
    least_last (suc d) k eq f =
        let before : n + d ≤ b = least_last d (n + d) refl (omega arith) in
        let w = e.within in
        let c = crossing (n + d) (omega arith) (e.joined (n + d) (omega arith) (omega arith)) in
        let below = c.1 in
        let over = c.3 in
        let got = closed c.0 (slice_index reach c.0) c.2 (omega arith) (omega arith) in
        let g = got.1 in
        omega arith

    least_both : (a ≤ first) × (last ≤ b)
    least_both =
        let u = s.upto in
        let f = e.from in (
          least_first (n - first) first (omega arith) (omega arith),
          least_last (last - n) last (omega arith) (omega arith),
        )

  -- no loop passes a cut
  at_cut : (k from to : ℕ) → k < length tops → slice_index tops k ≤ k → IsLoop code from to → from ≤ k → to ≤ k
  at_cut k from to within cut l below =
      let reached = long from to l in
      let above = (t k within).above from below in
      omega arith

  enters : (n first : ℕ) → n < length tops → IsStart tops n first → (from to : ℕ) → IsLoop code from to → first ≤ to →
      first ≤ from
  enters n zero within s from to l below = omega arith
  enters n (suc k) within s from to l below =
      let u = s.upto in
      elim (cases_lt from (suc k)) [
        | inl before ↦ let c = at_cut k from to (omega arith) (s.cut k refl) l (omega arith) in absurd (omega arith)
        | inr after ↦ after
      ]

  pub block : (n first last : ℕ) → IsStart tops n first → IsEnd tops n last → IsBlock code n first last
  block n first last s e = record {
    starts = s.upto;
    ends = e.from;
    enters = let f = e.from in let w = e.within in enters n first (omega arith) s;
    leaves = λ from to l below. at_cut last from to e.within e.cut l below;
    least = λ a b closed low high. least_both n first last a b s e closed low high;
  }

  -- the last instruction ends a block
  pub last_cut : (n : ℕ) → suc n ≡ length tops → slice_index tops n ≤ n
  last_cut n e =
      let x = (t n (omega arith)).reached in
      let b = r.bound x.0 in
      let l = r.len in
      let q = x.2 in
      omega arith

  pub all_blocks : (starts ends : List ℕ) → length starts ≡ length tops → length ends ≡ length tops →
      AreStarts tops starts → AreEnds tops ends → AreBlocks code starts ends
  all_blocks starts ends sl el ss es =
      let l = r.len in
      record {
        starts_len = omega arith;
        ends_len = omega arith;
        blocks = λ n le. block n (slice_index starts n) (slice_index ends n) (ss n (omega arith)) (es n (omega arith));
      }
