-- The answer of the reading is printed.
use Rattle.line_serve.proofs.Serving.{serves_asked}
use Rattle.line_serve.proofs.serve_read.Goals as goal

pub returns : goal.returns
returns c =
    serves_asked c.args.w.now c.args.what c.args.name c.read-answer.ensures c.put_reading-next.ensures c.requires.told
