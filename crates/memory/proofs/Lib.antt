mod Flats
