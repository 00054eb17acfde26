-- The fields of a line that asks, as plain data.
use Rattle.desk_script.specs.Working.Reading.{AskFields, parts_left}
use Rattle.desk_script.specs.declared.fields.AskFields.{AskFields as CodeFields}

abbrev pub ask_view : CodeFields → AskFields
ask_view fields = record { client = fields.client.now; hash = fields.hash.now; outputs = parts_left 32 fields.outputs }
