use Rattle.std.proofs.Common.{List, length, ◌≤◌, subst, sym, rules}
use Rattle.std.specs.List.{All}
use Rattle.rv_instr.specs.declared.instr.Instr.{Instr}
use Rattle.purecap_abi.specs.Words.{IsPlainWord}
use Rattle.purecap_abi.proofs.EndLaws.{epilogue_most}
use Rattle.purecap_abi.proofs.ends.epilogue.Goals as goal

pub returns-clause-code : goal.returns-clause-code
returns-clause-code c = search rules

pub returns-clause-plain : goal.returns-clause-plain
returns-clause-plain c =
    subst (λ (is : List Instr). All IsPlainWord is) (sym (returns-clause-code c))
    (epilogue_most c.args.places.now.homes c.args.f.now).plain

pub returns-clause-few : goal.returns-clause-few
returns-clause-few c =
    subst (λ (is : List Instr). length is ≤ 20) (sym (returns-clause-code c))
    (epilogue_most c.args.places.now.homes c.args.f.now).few
