-- The headers of what the gateway sends. A reply that grants has the request's own header, but for CREATED and STATUS.
use Rattle.std.specs.Prelude.{cond, ℕ, ◌+◌, ltb}
use Rattle.format.specs.declared.header.Header.{Header}
use Rattle.ops.specs.Codes.{NOTICE, CANT}

-- n more than this byte; 255, which is no known CMD, where the byte is not under the limit
abbrev pub cmd_over : ℕ → ℕ → ℕ → ℕ
cmd_over n limit byte = cond (ltb byte limit) (byte + n) 255

-- 'CAN'T adds 128 to CMD.'
unfoldable pub cant_of : Header → Header
cant_of h = record { host = h.host; cmd = cmd_over CANT CANT h.cmd; pid = h.pid; arg1 = h.arg1; arg2 = h.arg2 }

-- 'CREATED carries the new number in PID.'
unfoldable pub created_of : Header → ℕ → Header
created_of h pid = record { host = h.host; cmd = h.cmd; pid = pid; arg1 = h.arg1; arg2 = h.arg2 }

-- a reply with its own numbers in ARG1 and ARG2
unfoldable pub with_args : ℕ → ℕ → Header → Header
with_args a b h = record { host = h.host; cmd = h.cmd; pid = h.pid; arg1 = a; arg2 = b }

-- 'Notice: CMD 64 TRAP (reason in ARG1), 65 HALT, 66 BPT, 67 TTRAP; PID; the rest zero', by the kind 0 to 3
unfoldable pub notice_of : ℕ → ℕ → ℕ → ℕ → Header
notice_of host kind pid reason =
    record { host = host; cmd = cmd_over NOTICE 4 kind; pid = pid; arg1 = reason; arg2 = 0 }
