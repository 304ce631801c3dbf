-- What is read between a header and the end of its frame is a frame value's: the parts that are read there are the parts of
-- one, by the productions.
use Rattle.std.proofs.Common.{◌≡◌, true, length, refl}
use Rattle.cqlp_note.specs.Limits.{Rules}
use Rattle.cqlp_message.proofs.PartsWritten.{parts_fit}
use Rattle.cqlp_message.proofs.FramesBack.{spelled_back, frame_spelled, frame_in_range, frame_within, frame_events}
use Rattle.cqlp_laws.specs.ReadFrames.{ReadIsSpelled, ReadIsSpelledWithGifts}
use Rattle.cqlp_laws.proofs.ReadSpelled.{AreOfFrames, read_is_spelled, read_with_gifts}

of_frames : (l : Rules) → l.types ≡ true → AreOfFrames l
of_frames l on h ps described body extra lawful flags stream small s within d long =
    let range = (parts_fit ps body s small).range in
    let f = spelled_back l h ps described body lawful range s d in
    record {
      frame = f.frame;
      spelled = frame_spelled l h ps f body extra (length extra) lawful s long refl;
      within = frame_within l h ps f within on;
      range = frame_in_range l h ps f range flags stream;
      events = frame_events l h ps f;
    }

pub frames_spelled : ReadIsSpelled
frames_spelled = read_is_spelled of_frames

pub frames_with_gifts : ReadIsSpelledWithGifts
frames_with_gifts = read_with_gifts of_frames
