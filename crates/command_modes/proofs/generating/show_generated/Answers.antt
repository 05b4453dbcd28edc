use Rattle.std.proofs.Common.{◌≡◌, ◌∙◌, ℕ, List, length, Some, None, inr, ap, refl, subst, arith}
use Rattle.ck_base.specs.Calls.{seen}
use Rattle.generator.specs.Generated.{generated}
use Rattle.command_modes.specs.Modes.{RunSays}
use Rattle.command_modes.specs.Shown.{PutSays, summary}
use Rattle.command_modes.proofs.generating.show_generated.Goals as goal

pub returns-in-Ok-summary_of : goal.returns-in-Ok-summary_of
returns-in-Ok-summary_of g c = λ left faults.
    let before = seen left faults (g.O.Sink.held c.args.out.now) (g.O.Sink.faults c.args.out.now) in
    let after = seen left faults (g.O.Sink.held c.put.new.out) (g.O.Sink.faults c.put.new.out) in
    let ran = c.run_file-ran.result in
    let own = seen (Some c.run_file-ran.new.input) 0 None 0 in
    let of_file = subst (λ (file : List ℕ). RunSays
    (seen (Some c.new-input.result) 0 None 0) own file c.args.limit.0 c.args.limit.1 ran)
    (c.deref.ensures.value ∙ c.in-Ok.ensures) c.run_file-ran.ensures in
    let says = subst (λ (bytes : List ℕ). RunSays (seen (Some bytes) 0 None 0) own
    (generated c.args.functions) c.args.limit.0 c.args.limit.1 ran)
    (c.new-input.ensures ∙ c.new.ensures.items) of_file in
    let all : c.len.result ≡ length c.in-Ok.file.items = omega (arith, c.len.ensures, c.in-Ok.file.ok) in
    let bytes = all ∙ ap length c.in-Ok.ensures in
    inr (
      ran,
      record { after = own; says = says; sure = (refl, refl); some = c.in_default-ran.not-Memory },
      subst (λ (text : List ℕ). PutSays before after text c.put.result)
          (c.as_bytes.ensures.value ∙ c.in-Ok-summary_of.ensures ∙ ap (λ n. summary c.args.functions n ran) bytes)
          (c.put.ensures left faults),
    )
