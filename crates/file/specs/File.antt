-- The answer of a read, as document 01 has it.
use Rattle.std.specs.Prelude.{ℕ, Option as std_Option, Result, None, Some}
use Rattle.std.proofs.Math.Option.{Option}
use Rattle.base.specs.Choice.{if_true, on_some}
use Rattle.meaning.specs.declared.Record.{Record}
use Rattle.meaning.specs.declared.Refusal.{Refusal}
use Rattle.meaning.specs.Answer.{Answer, answer_by}
use Rattle.meaning.specs.Replay.{is_dir}

abbrev pub answer : Result ℕ Refusal → Answer ℕ
answer r = answer_by (λ n. n) r

-- NOFILE: "path absent or a directory"
unfoldable pub length_of : Option Record → std_Option ℕ
length_of o = on_some o None (λ f. if_true (is_dir f) None (Some f.length))
