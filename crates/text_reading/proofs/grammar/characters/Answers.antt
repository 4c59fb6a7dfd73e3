use Rattle.text_reading.proofs.Refusing.{refused_bytes}
use Rattle.text_reading.proofs.grammar.characters.Goals as goal

pub returns-in_ok-text-in-Err-NotUtf8-clause-refused : goal.returns-in_ok-text-in-Err-NotUtf8-clause-refused
returns-in_ok-text-in-Err-NotUtf8-clause-refused c =
    refused_bytes c.args.bytes.now c.in_ok-text-in-Err-NotUtf8.text.items c.in-Err-NotUtf8.field-0 c.in-Err-NotUtf8.at c.requires c.in-Err-NotUtf8.field-0-is c.in-Err-NotUtf8.ensures.refused c.in_ok-text-in-Err-NotUtf8.ensures
