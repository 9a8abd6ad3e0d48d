-- Every call is lawful. Assumes nothing.
use Rattle.rules.specs.Step.{Call, request, report, store, text_line, packet, tick, query}
use Rattle.rules.proofs.CallLaws.{Lawful}
use Rattle.rules.proofs.RequestLaws.{request-lawful}
use Rattle.rules.proofs.ReportLaws.{report-lawful, store-lawful}
use Rattle.rules.proofs.TextLaws.{text-lawful}
use Rattle.rules.proofs.PacketLaws.{packet-lawful, tick-lawful}
use Rattle.rules.proofs.QueryLaws.{query-lawful}

pub lawful : (c : Call) → Lawful c
lawful (request m buffer) = request-lawful m buffer
lawful (report p kind reason words buffer line) = report-lawful p kind reason words buffer line
lawful (store p x v) = store-lawful p x v
lawful (text_line text buffer) = text-lawful text buffer
lawful (packet door kind id words buffer) = packet-lawful door kind id words buffer
lawful (tick door) = tick-lawful door
lawful (query m) = query-lawful m
