use Rattle.std.proofs.Common.{[], ◌∷◌, ◌++◌, ◌∙◌, ap, sym}
use Rattle.rv_instr.specs.declared.instr.Instr.{Instr}
use Rattle.purecap_abi.specs.Saving.{is_home}
use Rattle.purecap_abi.specs.Ends.{keep}
use Rattle.purecap_abi.proofs.EndLaws.{none_kept, one_kept}
use Rattle.purecap_abi.proofs.taking.keep_next.Goals as goal

pub returns-in_ok-put-clause-code : goal.returns-in_ok-put-clause-code
returns-in_ok-put-clause-code c =
    let a = c.args in
    one_kept (is_home a.places.now.homes a.register) a.way a.register a.base a.at a.code.now.items c.put.new.code.items
    (sym c.if-is_home.ensures)
    (c.in_ok-put.ensures ∙ ap (λ (i : Instr). a.code.now.items ++ i ∷ [])
    (c.keep.ensures ∙ ap (λ r. keep a.way r a.base a.at) c.numbered.ensures))

pub returns-else-is_home-clause-code : goal.returns-else-is_home-clause-code
returns-else-is_home-clause-code c =
    let a = c.args in
    none_kept (is_home a.places.now.homes a.register) a.way a.register a.base a.at a.code.now.items
    (sym c.if-is_home.ensures)
