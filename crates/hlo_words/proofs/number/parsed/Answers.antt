use Rattle.hlo_words.proofs.Numbers.{read_is_spelled, spelled_is_read}
use Rattle.hlo_words.proofs.number.parsed.Goals as goal

pub returns-clause-digits : goal.returns-clause-digits
returns-clause-digits c = read_is_spelled c.args.text.now c.parse.result c.ok.result c.ok.ensures.value c.parse.ensures.value.0

pub returns-clause-each : goal.returns-clause-each
returns-clause-each c = spelled_is_read c.args.text.now c.parse.result c.ok.result c.ok.ensures.value c.parse.ensures.value.0
