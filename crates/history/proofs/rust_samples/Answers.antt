-- `history::rust_samples` meets its contract: the definitions compute.
use mathlib.Core.Path.{refl}
use Rattle.le.specs.Le.{number_of, bytes_of}
use Rattle.checksum.specs.V42.{add, remainder, digits, bits, frame_check, number, check_of}
use Rattle.names.specs.Names.{name_from}
use Rattle.decode.specs.Decode.{test_of}
use Rattle.history.specs.Record.{flags_of, head_bytes, text_bytes, tally_bytes, body_bytes, record_bytes}
use Rattle.history.specs.Decode.{is_whole, name_in, unread_in, summary_in, record_in, decode_of}
use Rattle.history.proofs.rust_samples.Goals as goal

pub returns : goal.returns
unfolding number_of name_from test_of is_whole name_in unread_in summary_in record_in decode_of bytes_of add remainder digits bits frame_check number check_of flags_of head_bytes text_bytes tally_bytes body_bytes record_bytes
returns c =
    record {
      written_0 = refl;
      written_1 = refl;
      written_2 = refl;
      written_3 = refl;
      written_4 = refl;
      written_5 = refl;
      written_6 = refl;
      written_7 = refl;
      written_8 = refl;
      written_9 = refl;
      read_0 = refl;
      read_1 = refl;
      read_2 = refl;
      read_3 = refl;
      read_4 = refl;
      read_5 = refl;
      read_6 = refl;
      read_7 = refl;
      read_8 = refl;
      read_9 = refl;
      read_10 = refl;
      read_11 = refl;
      read_12 = refl;
      read_13 = refl;
    }
