-- `message::request::write_request` meets its contract: the form found is that of the CMD. Assumes nothing.
use Rattle.message.specs.Exchange.{writes}
use Rattle.message.proofs.request.write_request.Goals as goal

pub returns : goal.returns
unfolding writes
returns c = rw c.request_form.ensures at c.write.ensures
