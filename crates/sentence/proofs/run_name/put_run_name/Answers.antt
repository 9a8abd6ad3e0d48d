-- `sentence::run_name::put_run_name` meets its contract: the table has the names, and none is too long. Assumes nothing.
use mathlib.Core.Path.{refl}
use Rattle.lines.proofs.PutLaws.{put_as}
use Rattle.sentence.specs.Text.{text}
use Rattle.sentence.specs.Name.{first_word, after_comma, name_room}
use Rattle.sentence.specs.RunName.{run_names, run_name}
use Rattle.sentence.proofs.NameLaws.{short, names-short, named-words}
use Rattle.sentence.proofs.run_name.put_run_name.Goals as goal

pub put_name-requires-clause-by_index : goal.put_name-requires-clause-by_index
unfolding short
put_name-requires-clause-by_index c = names-short name_room _ refl

pub returns-clause-put : goal.returns-clause-put
unfolding run_name first_word after_comma
returns-clause-put c =
    put_as c.args.from c.put_name.result _ (run_name c.args.run) c.args.out.now c.put_name.new.out (named-words _ run_names (text "in run state ") refl c.args.run) c.put_name.ensures.put
