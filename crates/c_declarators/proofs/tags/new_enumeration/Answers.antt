use Rattle.ck_base.specs.Tokens.{Lexeme}
use Rattle.c_tree.specs.Scopes.{State}
use Rattle.c_types.specs.Calls.{IsTag}
use Rattle.c_types.specs.Declares.{name_of, declares_tag}
use Rattle.c_types.specs.declared.entries.TagKind.TheVariants.{Enum}
use Rattle.c_expressions.specs.declared.nodes.Nodes.{Nodes}
use Rattle.c_elaborator.specs.declared.work.Work.{Work}
use Rattle.c_elaborator.specs.Parts.{token_of}
use Rattle.c_elaborator.specs.Answers.{NothingThere, IsNothing}
use Rattle.c_declarators.specs.Steps.{new_enumeration_of}
use Rattle.c_declarators.proofs.Lifting.{declared, refused}
use Rattle.c_declarators.proofs.Tagging.{enumeration_declares, enumeration_given, enumeration_refused, name_is}
use Rattle.c_declarators.proofs.tags.new_enumeration.Goals as goal

pub returns-in-Ok : goal.returns-in-Ok
returns-in-Ok c =
    let w : Work = c.args.work.now in
    let m : Nodes = c.bind_tag.new.nodes in
    let t : Lexeme = token_of w c.args.name in
    let u : Lexeme = name_of w.nodes.scopes.file.now c.tag_of-d.result in
    let F : State → Unit {0} → Type 0 = λ s x. Unit {0} in
    declared w m (new_enumeration_of t) _ F F c.requires c.bind_tag.ensures.declared
    (enumeration_declares w.file.now t) tt
    (λ s h. enumeration_given m.scopes m.p t u c.tag_of-d.result.defines s (IsTag m.p c.in-Ok.field-0)
    (name_is w c.args.name c.tag_of-d.result s c.tag_of-d.ensures.name c.tag_of-d.ensures.pos h)
    c.tag_of-d.ensures.defines (c.in-Ok.ensures.is s h.stands))
    (λ s x f. f)

pub returns-in-Err : goal.returns-in-Err
returns-in-Err c =
    let w : Work = c.args.work.now in
    let m : Nodes = c.bind_tag.new.nodes in
    let t : Lexeme = token_of w c.args.name in
    let u : Lexeme = name_of w.nodes.scopes.file.now c.tag_of-d.result in
    refused w (record w { nodes = m }) m (declares_tag Enum u c.tag_of-d.result.defines) (new_enumeration_of t)
    (IsTag m.p) NothingThere IsNothing c.in-Err.refusal
    (λ s z h e. enumeration_refused t u c.tag_of-d.result.defines s z
    (name_is w c.args.name c.tag_of-d.result s c.tag_of-d.ensures.name c.tag_of-d.ensures.pos h)
    c.tag_of-d.ensures.defines e)
    c.in-Err.ensures.is
