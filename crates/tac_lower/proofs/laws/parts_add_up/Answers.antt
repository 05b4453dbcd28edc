use Rattle.std.proofs.Common.{◌+◌, arith}
use Rattle.tac_lower.proofs.Scening.{lowered_none, grown_lowered, lowered_then, forked, fork_other, fork_end}
use Rattle.tac_lower.proofs.Scening.{fork_turned, fork_joined, opened_then, label_made, opened_stands, opened_lowered}
use Rattle.tac_lower.proofs.laws.parts_add_up.Goals as goal

pub returns : goal.returns
returns c = record {
  nothing = λ p d types homes a q s. lowered_none p d types homes a q s;
  grown = λ p d types homes a b m n q s g h k l. grown_lowered p d types homes a b m n q s g h k l;
  both = λ p d types homes a b c m n q f g l. lowered_then p d types homes a b c m n q f g l;
  labels = λ p d types homes a b l m s f. let o = forked p d types homes a b l m s f in
      (fork_other p d types homes a b l m 2 o, fork_end p d types homes a b _ m 2 o);
  choice = λ p d types homes a b c e g h l m i j q s f x t k y w z.
      let first = opened_then p d types homes a b c _ 2 i (forked p d types homes a b l m s f) x in
      let second = opened_then p d types homes a e g _ (2 + i) j
      (fork_turned p d types homes a c e l m (2 + i) first t k) y in
      fork_joined p d types homes a g h m (2 + i + j) q second w (omega (arith, z));
  jumped = λ p d types homes a b c e l i q s f x w z.
      let first = opened_then p d types homes a b c _ 1 i (label_made p d types homes a b l s f) x in
      opened_lowered p d types homes a e (1 + i) q (opened_stands p d types homes a c e _ l (1 + i) first w)
      (omega (arith, z));
}
