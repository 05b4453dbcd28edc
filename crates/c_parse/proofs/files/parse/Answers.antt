use Rattle.std.proofs.lemmas.Result.{err_from_is_err_and}
use Rattle.c_parse.specs.Parsed.{IsRefused, OnCode}
use Rattle.c_parse.proofs.files.parse.Goals as goal
