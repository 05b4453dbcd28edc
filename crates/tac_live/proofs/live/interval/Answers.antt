use Rattle.std.proofs.Common.{◌≡◌, ◌<◌, ◌≤◌, length, slice_index, sym, subst, false, arith}
use Rattle.std.proofs.lemmas.Bool.Decides.{nat_tests}
use Rattle.std.proofs.lemmas.List.{get_or_read}
use Rattle.tac_ir.specs.Intervals.{IsLive}
use Rattle.tac_live.proofs.UseSteps.{none_named, some_used}
use Rattle.tac_live.proofs.LiveTemps.{unused_parameter, unused_temp, straight_temp, parameter, bent_temp}
use Rattle.tac_live.proofs.live.interval.Goals as goal

pub returns-in-None : goal.returns-in-None
returns-in-None c =
    let f = c.args.f.now in
    let param : c.args.t < f.params = grind (arith, nat_tests) in
    unused_parameter f c.args.t param (none_named f.code c.args.t c.args.uses c.in-None.is c.requires.uses)

pub returns-in-None-2 : goal.returns-in-None-2
returns-in-None-2 c =
    let f = c.args.f.now in
    let local : f.params ≤ c.args.t = grind (arith, nat_tests) in
    unused_temp f c.args.t local (none_named f.code c.args.t c.args.uses c.in-None-2.is c.requires.uses)

pub returns-in-Some : goal.returns-in-Some
returns-in-Some c =
    let f = c.args.f.now in
    let b = c.args.blocks.now in
    let u = c.in-Some.u in
    let param : c.args.t < f.params = grind (arith, nat_tests) in
    let used = some_used f.code (length f.code) c.args.t c.args.uses u c.in-Some.is c.requires.uses in
    let bound = used.bound in
    let len = c.requires.code_blocks.ends_len in
    let e = get_or_read b.ends.items u.last c.index.result.now (omega arith) c.index.ensures 0 in
    subst (λ m. IsLive f c.args.t 0 m) (sym e)
    (parameter f c.args.t u used b.starts.items b.ends.items c.requires.code_blocks param)

pub returns-in-Some-2 : goal.returns-in-Some-2
returns-in-Some-2 c =
    let f = c.args.f.now in
    let u = c.in-Some-2.u in
    let local : f.params ≤ c.args.t = grind (arith, nat_tests) in
    let used = some_used f.code (length f.code) c.args.t c.args.uses u c.in-Some-2.is c.requires.uses in
    straight_temp f c.args.t u used local c.if-u.true

pub returns-in-Some-3 : goal.returns-in-Some-3
returns-in-Some-3 c =
    let f = c.args.f.now in
    let b = c.args.blocks.now in
    let u = c.in-Some-3.u in
    let local : f.params ≤ c.args.t = grind (arith, nat_tests) in
    let used = some_used f.code (length f.code) c.args.t c.args.uses u c.in-Some-3.is c.requires.uses in
    let bound = used.bound in
    let between = (used.between u.last used.last used.bound).0 in
    let starts_len = c.requires.code_blocks.starts_len in
    let ends_len = c.requires.code_blocks.ends_len in
    let bent : u.straight ≡ false = cc in
    let s = get_or_read b.starts.items u.first c.index-in-Some-3.result.now (omega arith) c.index-in-Some-3.ensures 0 in
    let e = get_or_read b.ends.items u.last c.index-in-Some-3-2.result.now
    (omega arith) c.index-in-Some-3-2.ensures 0 in
    subst (λ m. IsLive f c.args.t c.index-in-Some-3.result.now m) (sym e)
    (subst (λ m. IsLive f c.args.t m (slice_index b.ends.items u.last)) (sym s)
    (bent_temp f c.args.t u used b.starts.items b.ends.items c.requires.code_blocks local bent))
