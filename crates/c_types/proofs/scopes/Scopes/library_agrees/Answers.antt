use Rattle.std.proofs.Common.{◌∙◌, sym, ap}
use Rattle.std.specs.Prelude.{option_map}
use Rattle.c_tree.specs.Views.{types_of}
use Rattle.c_tree.specs.Declarations.{agrees_library}
use Rattle.c_interner.specs.Numbers.{type_named}
use Rattle.c_types.specs.Fitting.{joined}
use Rattle.c_types.specs.Stands.{named}
use Rattle.c_types.proofs.Judged.{named_there}
use Rattle.c_types.proofs.Seeing.{library_is}
use Rattle.c_types.proofs.scopes.Scopes.library_agrees.Goals as goal

pub returns-in_ok-agrees-in-Some : goal.returns-in_ok-agrees-in-Some
returns-in_ok-agrees-in-Some c lt =
    let p = c.args.p.now in
    let ts = types_of p.types in
    let t = type_named p c.args.of in
    c.agree_with.ensures ∙ library_is (named ts c.in-Some.known) _ t c.in_ok-agrees-in-Some.agrees c.args.defines
    (named_there p c.args.of lt) c.in_ok-agrees-in-Some.ensures
    ∙ ap (λ o. agrees_library (joined (option_map (named ts) o)) t c.args.defines) (sym c.in-Some.is)
