use Rattle.std.proofs.Common.{◌≡◌, ℕ, ◌+◌, max, fold, take, sym, ap, ◌∙◌}
use Rattle.std.proofs.lemmas.List.Folds.{fold-map}
use Rattle.c_tree.specs.Scopes.{Aiming}
use Rattle.c_elaborator.specs.declared.work.Start.{Start}
use Rattle.c_elaborator.specs.Work.{aiming_of}
use Rattle.c_initializers.proofs.FoundLaws.{front-all}
use Rattle.c_initializers.proofs.statics.pointers_end.Goals as goal

pub returns : goal.returns
returns c =
    fold-map (λ (n : ℕ) (l : Aiming). max n (l.at + 16)) aiming_of 0 c.args.starts.now
    ∙ ap (fold (λ n (x : Start). max n (x.at + 16)) 0)
    (sym (front-all c.args.starts.now c.loop-x.x-index c.loop-x-test.false)) ∙ sym c.loop-x.invariant
