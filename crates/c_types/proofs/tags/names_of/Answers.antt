use Rattle.std.proofs.Common.{◌≡◌, arith, refl, ◌-◌, [], drop, ap, ◌∙◌, drop_of_length-le}
use Rattle.c_types.proofs.Membered.{named_turn, named_from}
use Rattle.c_types.proofs.tags.names_of.Goals as goal

pub loop-left-init : goal.loop-left-init
loop-left-init c = record {
  within = omega (arith, c.in_ok-left.ensures);
  numbers = λ name. rw c.new-numbers.ensures.empty
      (let none : drop c.in_ok-left.left c.args.members.now ≡ [] =
      drop_of_length-le c.args.members.now (omega (arith, c.in_ok-left.ensures)) in
      rw none refl);
}

pub bounds-members-left : goal.bounds-members-left
bounds-members-left c = omega (arith, c.loop-left.invariant.within, c.loop-left-test.true)

pub loop-left-preserved : goal.loop-left-preserved
loop-left-preserved c = record {
  within = omega (arith, c.loop-left.invariant.within);
  numbers = λ name. rw c.in_ok-insert.ensures.entries
      (named_turn c.args.scopes.now.file.now c.args.members.now c.loop-left.left (c.loop-left.left - 1) _
      c.loop-left.numbers.entries (record { bytes = c.text-name.result })
      (omega (arith, c.loop-left-test.true)) (omega (arith, c.loop-left.invariant.within, c.loop-left-test.true))
      c.text-name.ensures c.loop-left.invariant.numbers name);
}

pub returns : goal.returns
returns c name =
    let none : c.loop-left.left ≡ 0 = omega (arith, c.loop-left-test.false) in
    c.loop-left.invariant.numbers name
    ∙ ap (λ k. named_from c.args.scopes.now.file.now c.args.members.now k name) none
