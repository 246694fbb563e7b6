-- The fields go out in one number, and the coefficients after them.
use Rattle.enc_bits.proofs.Sent.{sent_sent}
use Rattle.enc_bits.proofs.Around.{params-joined, coefs_next}
use Rattle.enc_bits.proofs.Sink.put_params.Goals as goal

pub put_coefs-requires : goal.put_coefs-requires
put_coefs-requires c = coefs_next _ c.requires c.put.ensures

pub returns : goal.returns
returns c = rw (params-joined c.requires) (sent_sent _ _ c.put.ensures c.put_coefs.ensures)
