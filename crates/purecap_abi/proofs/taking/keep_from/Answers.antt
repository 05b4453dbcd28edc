use Rattle.std.proofs.Common.{◌≡◌, ◌++◌, ◌∙◌, ap, arith, rules}
use Rattle.purecap_abi.specs.Ends.{keep_from}
use Rattle.purecap_abi.proofs.EndLaws.{kept_more, at_more_homes, few_homes, nothing_kept, whole_homes}
use Rattle.purecap_abi.proofs.taking.keep_from.Goals as goal

pub loop-register-init : goal.loop-register-init
loop-register-init c = record {
  code = nothing_kept c.args.way c.args.base c.args.from c.args.code.now.items;
  at = search rules;
}

pub keep_next-requires-clause-near : goal.keep_next-requires-clause-near
keep_next-requires-clause-near c =
    omega (arith, few_homes c.args.places.now.homes c.loop-register.register-index, c.loop-register.invariant.at)

pub loop-register-preserved : goal.loop-register-preserved
loop-register-preserved c =
    let a = c.args in
    let i = c.loop-register in
    record {
      code = kept_more a.places.now.homes a.way a.base a.from i.at i.register-index a.code.now.items i.code.items
          c.keep_next.new.code.items c.loop-register-test.true i.invariant.code i.invariant.at c.in_ok-at.ensures.code;
      at = at_more_homes a.places.now.homes a.from i.at c.in_ok-at.at i.register-index c.loop-register-test.true
          i.invariant.at c.in_ok-at.ensures.next;
    }

pub returns : goal.returns
returns c =
    let a = c.args in
    let last : c.loop-register.register-index ≡ 12 = omega arith in
    c.loop-register.invariant.code
    ∙ ap (λ rs. a.code.now.items ++ keep_from a.way a.base a.from rs)
    (whole_homes a.places.now.homes c.loop-register.register-index last)
