-- The live interval of a temp, from its uses and the blocks of the code.
use Rattle.std.proofs.Common.{◌≡◌, ℕ, ◌<◌, ◌≤◌, true, false, List, length, inl, inr, refl, sym, subst, arith}
use Rattle.std.specs.Prelude.{slice_index}
use Rattle.std.proofs.lemmas.Bool.{both_ways, false_from_ne_true}
use Rattle.tac_ir.specs.Intervals.{NamesAt, ReadsAt, is_control, IsStraight, IsUnused, IsLive}
use Rattle.tac_ir.specs.Temps.{reads, writes}
use Rattle.tac_ir.specs.declared.code.TacFun.{TacFun}
use Rattle.tac_live.proofs.Numbers.{at_above, at_within, is_in_right}
use Rattle.tac_live.specs.Loops.{IsBlock, AreBlocks}
use Rattle.tac_live.specs.Uses.{AreUses}
use Rattle.tac_live.specs.declared.uses.Uses.{Uses}

module _ (f : TacFun) (t : ℕ) where
  -- ---- a temp that no instruction names

  pub unused_parameter : t < f.params → ((n : ℕ) → NamesAt f.code t n → ⊥) → IsLive f t 0 0
  unused_parameter param unnamed = record {
    covers = record {
      at_entry = λ h. refl;
      named = λ n a. absurd (unnamed n a);
      loops = λ bent from to l below above. let a = at_above f.code from _ l.starts in absurd (omega arith);
    };
    least = λ used first' last' c. let e = c.at_entry param in (omega arith, omega arith);
    unused = λ u. let q = u.no_parameter in absurd (omega arith);
  }

  pub unused_temp : f.params ≤ t → ((n : ℕ) → NamesAt f.code t n → ⊥) → IsLive f t 1 0
  unused_temp local unnamed = record {
    covers = record {
      at_entry = λ h. absurd (omega arith);
      named = λ n a. absurd (unnamed n a);
      loops = λ bent from to l below above. absurd (bent (record {
        no_parameter = local;
        written_first = λ n r. absurd (unnamed n (r.0, r.1, is_in_right t (writes r.0) (reads r.0) r.2));
        undivided = λ m n to i a b c d e. absurd (unnamed m a);
      }));
    };
    least = λ used first' last' c. absurd (used (record { no_parameter = local; unnamed = unnamed }));
    unused = λ u. (refl, refl);
  }

  -- ---- one that some do

  module _ (u : Uses) (h : AreUses f.code (length f.code) t u) where
    named_between : (n : ℕ) → NamesAt f.code t n → (u.first ≤ n) × (n ≤ u.last)
    named_between n a = h.between n a (at_within f.code n a.0 a.1)

    is_used : IsUnused f t → ⊥
    is_used n = n.unnamed u.first h.first

    is_straight : f.params ≤ t → u.straight ≡ true → IsStraight f t
    is_straight local e = record {
      no_parameter = local;
      written_first = λ n r.
          let b = (named_between n (r.0, r.1, is_in_right t (writes r.0) (reads r.0) r.2)).0 in (
            u.first,
            omega (arith, λ (s : u.first ≡ n). h.written_first e (subst (λ m. ReadsAt f.code t m) (sym s) r)),
            h.first,
          );
      undivided = λ m n to i a b c d e'. false_from_ne_true (is_control i) (λ v.
          let l = (named_between m a).0 in
          let r = (named_between to b).1 in
          h.undivided e (record {
            at = n;
            control = i;
            stands = e';
            divides = v;
            behind = omega arith;
            before = omega arith;
          }));
    }

    not_straight : u.straight ≡ false → IsStraight f t → ⊥
    not_straight e s = elim (h.bent e) [
      | inl r ↦
          let earlier = s.written_first u.first r in
          let b = (named_between earlier.0 earlier.2).0 in
          let l = earlier.1 in
          omega arith
      | inr d ↦ both_ways (is_control d.control)
          (s.undivided u.first d.at u.last d.control h.first h.last d.behind d.before d.stands) d.divides
    ]

    pub straight_temp : f.params ≤ t → u.straight ≡ true → IsLive f t u.first u.last
    straight_temp local e = record {
      covers = record {
        at_entry = λ p. absurd (omega arith);
        named = named_between;
        loops = λ bent from to l below above. absurd (bent (is_straight local e));
      };
      least = λ used first' last' c. ((c.named u.first h.first).0, (c.named u.last h.last).1);
      unused = λ n. absurd (is_used n);
    }

    module _ (starts ends : List ℕ) (blocks : AreBlocks f.code starts ends) where
      end_block : IsBlock f.code u.last (slice_index starts u.last) (slice_index ends u.last)
      end_block = blocks.blocks u.last (at_within f.code u.last h.last.0 h.last.1)

      start_block : IsBlock f.code u.first (slice_index starts u.first) (slice_index ends u.first)
      start_block = blocks.blocks u.first (at_within f.code u.first h.first.0 h.first.1)

      pub parameter : t < f.params → IsLive f t 0 (slice_index ends u.last)
      parameter param = record {
        covers = record {
          at_entry = λ p. refl;
          named = λ n a. let b = (named_between n a).1 in let e = end_block.ends in (omega arith, omega arith);
          loops = λ bent from to l below above. (omega arith, end_block.leaves from to l below);
        };
        least = λ used first' last' c.
            let z = c.at_entry param in
            let bent : IsStraight f t → ⊥ = λ (s : IsStraight f t). (let q = s.no_parameter in omega arith) in
            let n = c.named u.last h.last in
            (omega arith, (end_block.least first' last' (c.loops bent) n.0 n.1).1);
        unused = λ n. absurd (is_used n);
      }

      pub bent_temp : f.params ≤ t → u.straight ≡ false →
          IsLive f t (slice_index starts u.first) (slice_index ends u.last)
      bent_temp local e = record {
        covers = record {
          at_entry = λ p. absurd (omega arith);
          named = λ n a. let b = named_between n a in let x = start_block.starts in let y = end_block.ends in
              (let b0 = b.0 in omega arith, let b1 = b.1 in omega arith);
          loops = λ bent from to l below above. (start_block.enters from to l above, end_block.leaves from to l below);
        };
        least = λ used first' last' c.
            let bent = not_straight e in
            let m = c.named u.first h.first in
            let n = c.named u.last h.last in (
              (start_block.least first' last' (c.loops bent) m.0 m.1).0,
              (end_block.least first' last' (c.loops bent) n.0 n.1).1,
            );
        unused = λ n. absurd (is_used n);
      }
