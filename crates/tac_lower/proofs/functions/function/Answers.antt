use Rattle.std.proofs.Common.{◌≤◌, Some, length, ap, sym, ◌∙◌, subst, arith}
use Rattle.std.specs.List.{sum_by}
use Rattle.c_tree.specs.Views.{times_in}
use Rattle.tac_lower.specs.Zeroed.{is_object}
use Rattle.tac_lower.specs.Scenes.{Housed}
use Rattle.c_tree.specs.TreeWeight.{function_weight}
use Rattle.tac_lower.proofs.Entering.{entered_few, empty_places, empty_words, empty_copying, finished_costs}
use Rattle.tac_lower.proofs.Entering.{finished_copies}
use Rattle.tac_lower.proofs.Finished.{begins_well}
use Rattle.tac_lower.proofs.Homes.{body_part, few_parameters, light_parts, parameters_kept, closed_new, formed}
use Rattle.tac_lower.proofs.Zeroing.{objects_once, empty_zeroing, empty_lone, finished_zeroes}
use Rattle.tac_lower.proofs.Shortness.{short_code}
use Rattle.tac_lower.specs.Programs.{AreHomes}
use Rattle.tac_lower.proofs.Homes.{parameters_there}
use Rattle.tac_emit.proofs.Wells.{keeps_then}
use Rattle.tac_lower.proofs.Whole.{function_is, code_none}
use Rattle.tac_lower.proofs.functions.function.Goals as goal

pub parameter_temps-requires-clause-room : goal.parameter_temps-requires-clause-room
parameter_temps-requires-clause-room c =
    let none = ap length c.new-out.ensures.kinds in
    let few = few_parameters c.requires.fits in
    record {
      temps = omega (arith, c.requires.light);
      labels =
          omega (arith, c.new-out.ensures.labels, c.requires.light);
    }

pub homes-requires-clause-room : goal.homes-requires-clause-room
homes-requires-clause-room c =
    let none = ap length c.new-out.ensures.kinds in
    let few = few_parameters c.requires.fits in
    let light = light_parts c.args.program.p.now c.args.d.now c.requires.light in
    let one = c.in_ok-parameter_temps.ensures.adds in
    record { temps = omega (arith, one.temps); labels = omega (arith, one.labels, c.new-out.ensures.labels) }

pub temps-requires : goal.temps-requires
temps-requires c =
    let none = ap length c.new-out.ensures.kinds in
    let few = few_parameters c.requires.fits in
    let light = light_parts c.args.program.p.now c.args.d.now c.requires.light in
    record { few = omega (arith, c.in_ok-parameter_temps.ensures.adds.temps, c.in_ok-homes.ensures.adds.temps) }

pub take_parameters-requires-clause-scene : goal.take_parameters-requires-clause-scene
take_parameters-requires-clause-scene c =
    let p = c.args.program.p.now in
    let d = c.args.d.now in
    let begun = c.in_ok-parameter_temps.ensures.grown.well p d
    (begins_well p d c.new-out.result c.new-out.ensures.code) in
    record {
      ready = c.requires.ready;
      housed = subst (λ z. Housed p d z c.homes.new.out) (sym c.as_slice.ensures.value) c.in_ok-homes.ensures.housed;
      well = c.in_ok-homes.ensures.grown.well p d begun;
    }

pub take_parameters-requires-clause-parameters : goal.take_parameters-requires-clause-parameters
take_parameters-requires-clause-parameters c =
    parameters_kept c.args.program.p.now c.args.d.now c.parameter_temps.new.out c.homes.new.out
    c.in_ok-parameter_temps.ensures.parameters c.in_ok-homes.ensures.grown.keeps

pub take_parameters-requires-clause-few : goal.take_parameters-requires-clause-few
take_parameters-requires-clause-few c =
    let few = few_parameters c.requires.fits in
    let light = light_parts c.args.program.p.now c.args.d.now c.requires.light in
    omega arith

pub statement-requires-clause-part : goal.statement-requires-clause-part
statement-requires-clause-part c = body_part c.requires.fits

pub statement-requires-clause-room : goal.statement-requires-clause-room
statement-requires-clause-room c =
    let none = ap length c.new-out.ensures.kinds in
    let few = few_parameters c.requires.fits in
    let light = light_parts c.args.program.p.now c.args.d.now c.requires.light in
    let one = c.in_ok-parameter_temps.ensures.adds in
    let two = c.in_ok-homes.ensures.adds in
    let three = c.in_ok-take_parameters.ensures.lowered.adds in
    record {
      temps = omega (arith, one.temps, two.temps, three.temps);
      labels =
          omega (arith, c.new-out.ensures.labels, one.labels, two.labels, three.labels);
    }

pub end_function-requires-clause-closed : goal.end_function-requires-clause-closed
end_function-requires-clause-closed c = λ l.
    let taken = c.in_ok-take_parameters.ensures.lowered.built.opens in
    let opens = c.in_ok-statement.ensures.lowered.built.opens ∙ taken ∙ c.in_ok-homes.ensures.grown.opens
    ∙ c.in_ok-parameter_temps.ensures.grown.opens in
    ap (λ z. z l) opens ∙ closed_new c.new-out.result c.new-out.ensures.labels l

pub end_function-requires-clause-room : goal.end_function-requires-clause-room
end_function-requires-clause-room c =
    let none = ap length c.new-out.ensures.kinds in
    let few = few_parameters c.requires.fits in
    let light = light_parts c.args.program.p.now c.args.d.now c.requires.light in
    let one = c.in_ok-parameter_temps.ensures.adds in
    let two = c.in_ok-homes.ensures.adds in
    let three = c.in_ok-take_parameters.ensures.lowered.adds in
    let four = c.in_ok-statement.ensures.lowered.adds in
    record {
      temps = omega (arith, one.temps, two.temps, three.temps, four.temps);
      labels =
          omega (arith, c.new-out.ensures.labels, one.labels, two.labels, three.labels, four.labels);
    }

pub finished-requires-clause-few : goal.finished-requires-clause-few
finished-requires-clause-few c =
    let few = few_parameters c.requires.fits in
    let light = light_parts c.args.program.p.now c.args.d.now c.requires.light in
    omega arith

pub finished-requires-clause-temps : goal.finished-requires-clause-temps
finished-requires-clause-temps c =
    let none = ap length c.new-out.ensures.kinds in
    let few = few_parameters c.requires.fits in
    let light = light_parts c.args.program.p.now c.args.d.now c.requires.light in
    let one = c.in_ok-parameter_temps.ensures.adds in
    let two = c.in_ok-homes.ensures.adds in
    let three = c.in_ok-take_parameters.ensures.lowered.adds in
    let four = c.in_ok-statement.ensures.lowered.adds in
    omega (arith, one.temps, two.temps, three.temps, four.temps, c.in_ok-end_function.ensures.adds.temps)

pub returns-clause-formed : goal.returns-clause-formed
returns-clause-formed c =
    let p = c.args.program.p.now in
    let d = c.args.d.now in
    let end = c.in_ok-end_function.ensures in
    let first = parameters_kept p d c.parameter_temps.new.out c.homes.new.out
    c.in_ok-parameter_temps.ensures.parameters c.in_ok-homes.ensures.grown.keeps in
    let taken = parameters_kept p d c.homes.new.out c.take_parameters.new.out first
    c.in_ok-take_parameters.ensures.lowered.built.keeps in
    let body = parameters_kept p d c.take_parameters.new.out c.statement.new.out taken
    c.in_ok-statement.ensures.lowered.built.keeps in
    formed p d c.requires.ready.ordered c.end_function.new.out c.finished.result c.finished.ensures.makes
    (parameters_kept p d c.statement.new.out c.end_function.new.out body end.keeps) end.whole

pub returns-clause-costs : goal.returns-clause-costs
returns-clause-costs c =
    let p = c.args.program.p.now in
    let d = c.args.d.now in
    let few = few_parameters c.requires.fits in
    let once = entered_few c.requires.fits few in
    let none = empty_places c.new-out.result c.new-out.ensures.code c.new-out.ensures.kinds in
    let no_words = empty_words c.new-out.result c.new-out.ensures.code in
    let one = c.in_ok-parameter_temps.ensures.spent in
    let two = c.in_ok-homes.ensures.spent in
    let three = c.in_ok-take_parameters.ensures.spent in
    let four = c.in_ok-statement.ensures.spends.spent (omega (arith, three.grows, c.temps.ensures)) in
    let five = c.in_ok-end_function.ensures.spent in
    finished_costs (function_weight p d) c.finished.ensures.makes
    (omega (arith, few, none, one.places, two.places, three.places, four.places, five.places))
    (omega (arith, few, once, no_words, one.words, two.words, three.words, four.words, five.words))

pub returns-clause-copies : goal.returns-clause-copies
returns-clause-copies c =
    let none = empty_copying c.new-out.result c.new-out.ensures.code in
    let one = c.in_ok-parameter_temps.ensures.spent in
    let two = c.in_ok-homes.ensures.spent in
    let three = c.in_ok-take_parameters.ensures.spent in
    let four = c.in_ok-statement.ensures.spends.spent (omega (arith, three.grows, c.temps.ensures)) in
    let five = c.in_ok-end_function.ensures.spent in
    omega (
      arith,
      finished_copies c.finished.ensures.makes,
      none,
      one.copies,
      two.copies,
      three.copies,
      four.copies,
      five.copies,
    )

pub returns-clause-zeros : goal.returns-clause-zeros
returns-clause-zeros c =
    let few = few_parameters c.requires.fits in
    let one = c.in_ok-parameter_temps.ensures.spent in
    let two = c.in_ok-homes.ensures.spent in
    let three = c.in_ok-take_parameters.ensures.spent in
    let four = c.in_ok-statement.ensures.spends.spent (omega (arith, three.grows, c.temps.ensures)) in
    let five = c.in_ok-end_function.ensures.spent in
    let same = c.as_slice.ensures.value in
    let apart = c.in_ok-homes.ensures.apart in
    let many = ap length same ∙ c.in_ok-homes.ensures.housed.many in
    finished_zeroes c.finished.ensures.makes
    (λ v. omega (
      arith,
      ap (times_in v) (empty_zeroing c.new-out.result c.new-out.ensures.code),
      ap (times_in v) one.zeros,
      ap (times_in v) two.zeros,
      three.zeros v,
      four.zeros v,
      ap (times_in v) five.zeros,
      objects_once c.requires.fits c.as_slice.result.now many few v
          (subst (λ z. sum_by (λ h. is_object v (Some h)) z ≤ 1) (sym same) (apart v)),
    ))
    (omega (
      arith,
      empty_lone c.new-out.result c.new-out.ensures.code,
      one.lone,
      two.lone,
      three.lone,
      four.lone,
      five.lone,
    ))

pub returns-clause-short : goal.returns-clause-short
returns-clause-short c =
    let p = c.args.program.p.now in
    let d = c.args.d.now in
    let few = few_parameters c.requires.fits in
    let light = light_parts p d c.requires.light in
    let one = c.in_ok-parameter_temps.ensures.adds in
    let two = c.in_ok-homes.ensures.adds in
    let three = c.in_ok-take_parameters.ensures.lowered.adds in
    let four = c.in_ok-statement.ensures.lowered.adds in
    let end = c.in_ok-end_function.ensures in
    short_code (function_weight p d) c.requires.light c.finished.ensures.makes (returns-clause-costs c)
    end.whole.differ end.whole.turns end.made
    (omega (arith, c.new-out.ensures.labels, one.labels, two.labels, three.labels, four.labels, end.adds.labels))

pub returns-clause-is : goal.returns-clause-is
returns-clause-is c = λ standing n there.
    let p = c.args.program.p.now in
    let d = c.args.d.now in
    let same = c.as_slice.ensures.value in
    let many = ap length same ∙ c.in_ok-homes.ensures.housed.many in
    let a = c.homes.new.out in
    let m = c.take_parameters.new.out in
    let z = c.statement.new.out in
    let e = c.end_function.new.out in
    let first = parameters_kept p d c.parameter_temps.new.out a c.in_ok-parameter_temps.ensures.parameters
    c.in_ok-homes.ensures.grown.keeps in
    let ending = c.in_ok-end_function.ensures.keeps in
    let keeps = keeps_then a.kinds.items z.kinds.items e.kinds.items
    (keeps_then a.kinds.items m.kinds.items z.kinds.items c.in_ok-take_parameters.ensures.lowered.built.keeps
    c.in_ok-statement.ensures.lowered.built.keeps) ending in
    let homed = subst (λ t. AreHomes p d c.as_slice.result.now t) (sym c.temps.ensures)
    (subst (λ hs. AreHomes p d hs (length a.kinds.items)) (sym same) c.in_ok-homes.ensures.homes) in
    function_is p d n c.requires.fits c.requires.ready.ordered there standing c.args.program.writes.now
    c.as_slice.result.now c.temps.result (c.requires.covered d.vars) homed many (few_parameters c.requires.fits) a m z e
    c.finished.result (subst (λ hs. Housed p d hs a) (sym same) c.in_ok-homes.ensures.housed)
    (code_none c.in_ok-parameter_temps.ensures.added c.in_ok-homes.ensures.added c.new-out.ensures.code)
    (sym c.temps.ensures) (omega (arith, parameters_there p d a first, c.temps.ensures))
    c.in_ok-take_parameters.ensures.takes c.in_ok-statement.ensures.is keeps ending c.in_ok-end_function.ensures.ends
    c.finished.ensures.makes
