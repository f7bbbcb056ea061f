use Rattle.net_reader.proofs.Parameters.{signature_fails_at_params}
use Rattle.net_reader.proofs.signatures.read_signature.Goals as goal

pub returns-in-Err-read_params-clause-answers : goal.returns-in-Err-read_params-clause-answers
returns-in-Err-read_params-clause-answers c =
    signature_fails_at_params c.args.text.now c.in-Ok.name c.in-Ok.rest.now c.in-Err-read_params.e c.in-Ok.ensures.answers c.in-Err-read_params.ensures.answers
