use Rattle.std.proofs.Common.{sym, subst, arith}
use Rattle.image_load.specs.Contained.{text_in}
use Rattle.elf_audit.specs.Rules.{IsFirstWord}
use Rattle.elf_audit.proofs.Sizes.{fits}
use Rattle.elf_audit.proofs.Noted.{numbered_place, none_before, none_at_all}
use Rattle.elf_audit.proofs.finding.first_word.Goals as goal

pub returns-then-reason-ne0 : goal.returns-then-reason-ne0
returns-then-reason-ne0 c =
    let f = fits c.args.view.now c.requires.fine in
    let t = text_in c.args.view.now in
    subst (λ x. IsFirstWord t x c.word_reason-reason.result) (sym c.place_of.ensures) (record {
      place = numbered_place t f.base f.size c.loop-k.k (omega arith);
      is = sym c.word_reason-reason.ensures;
      some = omega arith;
      before = none_before t f.base f.size c.loop-k.k c.loop-k.invariant;
    })

pub returns : goal.returns
returns c =
    let f = fits c.args.view.now c.requires.fine in
    none_at_all (text_in c.args.view.now) f.base f.size c.loop-k.k (omega arith) c.loop-k.invariant
