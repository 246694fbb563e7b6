-- The symbol goes out, and the run after it if there is one.
use Rattle.enc_rice.proofs.Turns.{run_takes, sent_alone, sent_both}
use Rattle.enc_rice.proofs.put_turn.Goals as goal

pub put-requires-in-Some : goal.put-requires-in-Some
put-requires-in-Some c = run_takes c.requires c.in-Some.is c.put.ensures

pub returns-in-Some : goal.returns-in-Some
returns-in-Some c = sent_both c.in-Some.is c.put.ensures c.put-in-Some.ensures

pub returns-in_default : goal.returns-in_default
returns-in_default c = sent_alone c.in_default.is c.put.ensures
