use Rattle.rv_decode.proofs.Encoded.{encoded_is_decoded_lem}
use Rattle.rv_decode.proofs.encoded_is_decoded.Goals as goal

pub returns : goal.returns
returns c = encoded_is_decoded_lem
