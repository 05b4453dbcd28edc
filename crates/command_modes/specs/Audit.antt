-- What the mode `audit` answers of a file.
use Rattle.std.specs.Prelude.{◌≡◌, ℕ, List, Ok, Err}
use Rattle.elf_audit.specs.Audit.{Answers}
use Rattle.elf_audit.specs.declared.verdict.Verdict.{Verdict}
use Rattle.elf_audit.specs.declared.verdict.Verdict.TheVariants.{Yes}
use Rattle.elf_file.specs.declared.image.Image.{Image}
use Rattle.image_load.specs.Contained.{Contained}
use Rattle.image_load.specs.Loading.{Loaded, loading}
use Rattle.command_modes.specs.declared.answer.Answer.{Answer}
use Rattle.command_modes.specs.declared.answer.Answer.TheVariants.{Audited, NotLoaded, Memory}

-- the verdict on an image: Yes exactly where no run of it leaves its text, or else the first word or relocation that
-- breaks a rule
pub record IsVerdict (image : Image) (verdict : Verdict) : Type 0 where
  pub answers : Answers image verdict
  pub yes : Contained image → verdict ≡ Yes

-- loading refused the file; or did not, and there was no memory or the image was judged
abbrev pub AuditSays : List ℕ → Answer → Type 0
AuditSays file (NotLoaded number) = loading file ≡ Err number
AuditSays file (Audited verdict) = (loaded : Loaded) × (loading file ≡ Ok loaded) × IsVerdict loaded.image verdict
AuditSays file Memory = (loaded : Loaded) × (loading file ≡ Ok loaded)
AuditSays file answer = ⊥
