use Rattle.std.proofs.Common.{◌*◌, ◌<◌, ◌^◌, subst, arith}
use Rattle.c_initializers.specs.declared.forms.Form.{Form}
use Rattle.c_initializers.specs.Forms.{StandsBefore}
use Rattle.c_initializers.proofs.WithinLaws.{up, next, ok-next, ok-moved, wide}
use Rattle.c_initializers.proofs.addresses.+starts.Goals as goal

pub form_start-returns-in_ok-x-in-Member-clause-within : goal.form_start-returns-in_ok-x-in-Member-clause-within
form_start-returns-in_ok-x-in-Member-clause-within t c =
    let n = c.args.node in
    let l = subst (λ (f : Form). StandsBefore f n) c.in-Member.is c.requires.before in
    ok-moved n c.member_of.result (c.member_of.ensures.within (n * 2 ^ 64)
    (up c.in-Member.a n c.in_ok-x-in-Member.x l c.in_ok-x-in-Member.ensures.within))

pub form_start-returns-in_ok-x-in-Pointed-clause-within : goal.form_start-returns-in_ok-x-in-Pointed-clause-within
form_start-returns-in_ok-x-in-Pointed-clause-within t c =
    let n = c.args.node in
    let l = subst (λ (f : Form). StandsBefore f n) c.in-Pointed.is c.requires.before in
    ok-next n c.pointer_to.result (c.pointer_to.ensures.within (n * 2 ^ 64)
    (up c.in-Pointed.a n c.in_ok-x-in-Pointed.x l c.in_ok-x-in-Pointed.ensures.within))

pub form_start-returns-in_ok-x-in-Converted-clause-within : goal.form_start-returns-in_ok-x-in-Converted-clause-within
form_start-returns-in_ok-x-in-Converted-clause-within t c =
    let n = c.args.node in
    let l = subst (λ (f : Form). StandsBefore f n) c.in-Converted.is c.requires.before in
    next n c.cast_of.result (c.cast_of.ensures.within (n * 2 ^ 64)
    (up c.in-Converted.a n c.in_ok-x-in-Converted.x l c.in_ok-x-in-Converted.ensures.within))

pub form_start-returns-in_ok-y-in-Plus-clause-within : goal.form_start-returns-in_ok-y-in-Plus-clause-within
form_start-returns-in_ok-y-in-Plus-clause-within t c =
    let n = c.args.node in
    let l = subst (λ (f : Form). StandsBefore f n) c.in-Plus.is c.requires.before in
    ok-moved n c.sum_of.result (c.sum_of.ensures.within (n * 2 ^ 64)
    (up c.in-Plus.a n c.in_ok-x-in-Plus.x l.0 c.in_ok-x-in-Plus.ensures.within)
    (up c.in-Plus.b n c.in_ok-y-in-Plus.y l.1 c.in_ok-y-in-Plus.ensures.within))

pub form_start-returns-in_ok-y-in-Derived-clause-within : goal.form_start-returns-in_ok-y-in-Derived-clause-within
form_start-returns-in_ok-y-in-Derived-clause-within t c =
    let n = c.args.node in
    let l = subst (λ (f : Form). StandsBefore f n) c.in-Derived.is c.requires.before in
    ok-moved n c.derived_of.result (c.derived_of.ensures.within (n * 2 ^ 64)
    (up c.in-Derived.a n c.in_ok-x-in-Derived.x l.0 c.in_ok-x-in-Derived.ensures.within)
    (up c.in-Derived.b n c.in_ok-y-in-Derived.y l.1 c.in_ok-y-in-Derived.ensures.within))

pub form_start-sum_of-requires-clause-left_within : goal.form_start-sum_of-requires-clause-left_within
form_start-sum_of-requires-clause-left_within t c =
    let n = c.args.node in
    let m : n < 2 ^ 32 = omega (arith, c.ranges.node) in
    let l = subst (λ (f : Form). StandsBefore f n) c.in-Plus.is c.requires.before in
    wide n c.in_ok-x-in-Plus.x m (up c.in-Plus.a n c.in_ok-x-in-Plus.x l.0 c.in_ok-x-in-Plus.ensures.within)

pub form_start-derived_of-requires-clause-left_within : goal.form_start-derived_of-requires-clause-left_within
form_start-derived_of-requires-clause-left_within t c =
    let n = c.args.node in
    let m : n < 2 ^ 32 = omega (arith, c.ranges.node) in
    let l = subst (λ (f : Form). StandsBefore f n) c.in-Derived.is c.requires.before in
    wide n c.in_ok-x-in-Derived.x m (up c.in-Derived.a n c.in_ok-x-in-Derived.x l.0 c.in_ok-x-in-Derived.ensures.within)
