use Rattle.std.proofs.Common.{◌≡◌, ℕ, sym, ◌∙◌}
use Rattle.c_tree.specs.declared.syntax.SpecifierWord.{SpecifierWord}
use Rattle.c_tree.specs.declared.syntax.SpecifierWord.TheVariants as words
use Rattle.c_tree.specs.Declarators.{times_there}
use Rattle.c_declarators.specs.Words.{times_at}
use Rattle.c_declarators.proofs.Counting.{times_stand}
use Rattle.c_declarators.proofs.words.Words.of.Goals as goal

pub returns : goal.returns
returns c = λ xs h.
    let f : (w : SpecifierWord) (n : ℕ) → n ≡ times_at w c.args.tree.now.nodes c.args.parts.now → n ≡ times_there w xs =
    λ w n e. e ∙ sym (times_stand w c.args.tree.now.nodes c.args.parts.now xs h) in
    λ i. record {
      typedefs = f words.Typedef _ c.in_ok-times.ensures i;
      statics = f words.Static _ c.in_ok-times-2.ensures i;
      externs = f words.Extern _ c.in_ok-times-3.ensures i;
      autos = f words.Auto _ c.in_ok-times-4.ensures i;
      registers = f words.Register _ c.in_ok-times-5.ensures i;
      consts = f words.Const _ c.in_ok-times-6.ensures i;
      voids = f words.Void _ c.in_ok-times-7.ensures i;
      chars = f words.Char _ c.in_ok-times-8.ensures i;
      shorts = f words.Short _ c.in_ok-times-9.ensures i;
      ints = f words.Int _ c.in_ok-times-10.ensures i;
      longs = f words.Long _ c.in_ok-times-11.ensures i;
      signed = f words.Signed _ c.in_ok-times-12.ensures i;
      unsigned = f words.Unsigned _ c.in_ok-times-13.ensures i;
      bools = f words.Bool _ c.in_ok-times-14.ensures i;
      int_caps = f words.IntCap _ c.in_ok-times-15.ensures i;
      uint_caps = f words.UintCap _ c.in_ok-times-16.ensures i;
    }
