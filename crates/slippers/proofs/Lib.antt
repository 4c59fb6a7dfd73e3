mod Supplying
