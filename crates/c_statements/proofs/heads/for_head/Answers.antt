use Rattle.c_tree.specs.Programs.{reading}
use Rattle.c_tree.specs.Statements.{first_part, optional_test, optional_step}
use Rattle.std.proofs.Common.{Ok, Err}
use Rattle.std.proofs.lemmas.Result.{err_from_is_err_and}
use Rattle.c_tree.specs.Scopes.{give, ◌>>=◌}
use Rattle.c_elaborator.proofs.Sequencing.{keeps_then, failed, freed}
use Rattle.c_statements.specs.Statements.{ForHead, MaybeThere, IsMaybe, maybe_term, HeadThere, IsHead}
use Rattle.c_statements.proofs.Failing.{second_failed, third_failed}
use Rattle.c_elaborator.specs.Answers.{freely}
use Rattle.c_elaborator.specs.Items.{context_in, ItemsThere, IsItems, items_in}
use Rattle.c_readings.proofs.Kids.{part_kept}
use Rattle.c_statements.proofs.Steps.{heads}
use Rattle.c_readings.proofs.Within.{still_within}
use Rattle.c_statements.proofs.heads.for_head.Goals as goal

pub returns : goal.returns
returns c = λ x y z p q o.
    let u = c.args.work.now in
    let v = c.first_part.new.work in
    let w = c.optional_test.new.work in
    let d = context_in u c.args.context in
    let a = c.in_ok-items.ensures x p in
    let b = c.in_ok-test.ensures y (part_kept u v c.args.parts.second y a.grows q) in
    let e = c.in_ok-step.ensures z (part_kept u w c.args.parts.third z (keeps_then u v w a.grows b.grows.keeps) o) in
    heads u v w c.optional_step.new.work (first_part d x (reading x)) (optional_test y (reading y))
    (optional_step z (reading z)) c.in_ok-items.items c.in_ok-test.test c.in_ok-step.step a b e

pub optional_test-requires : goal.optional_test-requires
optional_test-requires c =
    let u = c.args.work.now in
    let v = c.first_part.new.work in
    let a = c.in_ok-items.ensures c.requires.first.syntax c.requires.first.is in
    record { whole = a.whole; part = still_within u v c.args.parts.second a.grows c.requires.second }

pub optional_step-requires : goal.optional_step-requires
optional_step-requires c =
    let u = c.args.work.now in
    let v = c.first_part.new.work in
    let w = c.optional_test.new.work in
    let a = c.in_ok-items.ensures c.requires.first.syntax c.requires.first.is in
    let f = still_within u v c.args.parts.second a.grows c.requires.second in
    let b = c.in_ok-test.ensures f.syntax f.is in
    record {
      whole = b.whole;
      part = still_within u w c.args.parts.third (keeps_then u v w a.grows b.grows.keeps) c.requires.third;
    }

pub returns-in_err-items : goal.returns-in_err-items
returns-in_err-items c = let m = err_from_is_err_and c.from_residual.result c.from_residual.ensures.1 in λ x y z p q o.
    let u = c.args.work.now in
    let v = c.first_part.new.work in
    let d = context_in u c.args.context in
    rw (m.1, m.2) (failed freely u v v (first_part d x (reading x))
    (λ i. optional_test y (reading y) >>= λ ts. optional_step z (reading z)
    >>= λ ss. give (let h : ForHead = record { items = i; test = ts; step = ss } in h)) ItemsThere IsItems
    HeadThere IsHead _ (c.in_err-items.ensures x p))

pub returns-in_err-test : goal.returns-in_err-test
returns-in_err-test c =
    let m = err_from_is_err_and c.from_residual-in_err-test.result c.from_residual-in_err-test.ensures.1 in
    λ x y z p q o.
    let u = c.args.work.now in
    let v = c.first_part.new.work in
    let w = c.optional_test.new.work in
    let d = context_in u c.args.context in
    let a = c.in_ok-items.ensures x p in
    rw (m.1, m.2) (second_failed u v w (first_part d x (reading x)) (λ i. optional_test y (reading y))
    (λ i ts. optional_step z (reading z)
    >>= λ ss. give (let h : ForHead = record { items = i; test = ts; step = ss } in h))
    (items_in v c.in_ok-items.items) (ItemsThere v c.in_ok-items.items) MaybeThere IsMaybe HeadThere IsHead _ a
    (freed v w (optional_test y (reading y)) MaybeThere IsMaybe (Err _)
    (c.in_err-test.ensures y (part_kept u v c.args.parts.second y a.grows q))))

pub returns-in_err-step : goal.returns-in_err-step
returns-in_err-step c =
    let m = err_from_is_err_and c.from_residual-in_err-step.result c.from_residual-in_err-step.ensures.1 in
    λ x y z p q o.
    let u = c.args.work.now in
    let v = c.first_part.new.work in
    let w = c.optional_test.new.work in
    let t = c.optional_step.new.work in
    let d = context_in u c.args.context in
    let a = c.in_ok-items.ensures x p in
    let b = c.in_ok-test.ensures y (part_kept u v c.args.parts.second y a.grows q) in
    rw (m.1, m.2) (third_failed u v w t (first_part d x (reading x)) (λ i. optional_test y (reading y))
    (λ i ts. optional_step z (reading z)) (λ i ts ss.
    give (let h : ForHead = record { items = i; test = ts; step = ss } in h)) (items_in v c.in_ok-items.items)
    (maybe_term w c.in_ok-test.test) (ItemsThere v c.in_ok-items.items)
    (MaybeThere w c.in_ok-test.test) MaybeThere IsMaybe HeadThere IsHead _ a
    (freed v w (optional_test y (reading y)) MaybeThere IsMaybe (Ok c.in_ok-test.test) b)
    (freed w t (optional_step z (reading z)) MaybeThere IsMaybe (Err _)
    (c.in_err-step.ensures z (part_kept u w c.args.parts.third z (keeps_then u v w a.grows b.grows.keeps) o))))
