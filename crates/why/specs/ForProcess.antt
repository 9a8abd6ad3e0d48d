-- Why a request to one process is refused. Words in quotation marks are document 02's (K8).
use Rattle.std.specs.Prelude.{ℕ}
use Rattle.format.specs.declared.header.Header.{Header}
use Rattle.format.specs.Outcome.{first_failing}
use Rattle.reasons.specs.declared.Reason.{Reason}
use Rattle.process.specs.declared.record.Process.{Process}
use Rattle.rules.specs.Why.{reason_for}
use Rattle.checks.specs.Decision.{process_tests}

-- of a request with this header, in a message of so many bytes, to a process whose number is under 8: 'says granted, or names the first failing test ..
-- with its facts'
unfoldable pub why_for_process : Header → ℕ → Process → Reason
why_for_process h count p = reason_for (first_failing (process_tests h p)) h count p
