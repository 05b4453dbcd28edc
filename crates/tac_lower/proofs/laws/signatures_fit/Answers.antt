use Rattle.tac_lower.proofs.Signatures.{signature_is, named_signature, pointed, given, begins}
use Rattle.tac_lower.proofs.laws.signatures_fit.Goals as goal

pub returns : goal.returns
returns c = record {
  signature = λ p t r ps o e. signature_is p o t r ps e;
  named = λ p n d r ps o h e. named_signature p o n d r ps h e;
  pointed = λ p t s o e. pointed p o t s e;
  given = λ p t r ps o e. given p o t r ps e;
  parameters = λ p d ks o h. begins p o d ks h;
}
