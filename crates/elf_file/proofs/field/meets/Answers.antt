use Rattle.std.proofs.Common.{ℕ, ◌+◌, drop, sym, ap, ◌∙◌, arith}
use Rattle.elf_file.specs.declared.field.Field.TheVariants.{Half}
use Rattle.elf_file.specs.Fields.{meets}
use Rattle.elf_file.proofs.Runs.{size_of_more, meets_goes, meets_ends}
use Rattle.elf_file.proofs.field.meets.Goals as goal

pub returns-then-not-begins_with : goal.returns-then-not-begins_with
returns-then-not-begins_with c =
    sym (meets_ends c.args.fields.now c.loop-field.field-index (Half 0) c.loop-field.rest.now c.loop-field-test.true
    (sym c.begins_with.ensures ∙ c.if-not-begins_with.true)) ∙ c.loop-field.invariant.same

pub loop-field-preserved : goal.loop-field-preserved
loop-field-preserved c =
    let i = c.loop-field.field-index in
    let fs = c.args.fields.now in
    let rest = c.loop-field.rest.now in
    let after = c.split_at.ensures.back ∙ ap (λ (n : ℕ). drop n rest) c.width.ensures.value in
    record {
      same = ap (meets (drop (i + 1) fs)) after
          ∙ sym (meets_goes fs i (Half 0) rest c.loop-field-test.true
          (sym c.begins_with.ensures ∙ c.if-not-begins_with.false)) ∙ c.loop-field.invariant.same;
      room = omega (
        arith,
        size_of_more fs i (Half 0) c.loop-field-test.true,
        c.split_at.ensures.back_len,
        c.width.ensures.value,
      );
    }
