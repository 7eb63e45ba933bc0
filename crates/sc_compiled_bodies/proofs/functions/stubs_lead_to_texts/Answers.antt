use Rattle.sc_compiled_bodies.proofs.Ends.{stub_leads}
use Rattle.sc_compiled_bodies.proofs.functions.stubs_lead_to_texts.Goals as goal

pub returns : goal.returns
returns c = stub_leads
